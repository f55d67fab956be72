use Rattle.std.proofs.Common.{◌≡◌, length, arith, rules}
use Rattle.plans.proofs.Given.{enough, heating_few}
use Rattle.plans.proofs.Rejecting.{starts, given_few, goes_on, ends}
use Rattle.plans.proofs.planner.Planner.reject.Goals as goal

pub loop-d-init : goal.loop-d-init
loop-d-init c =
    let long : length c.args.self.now.loads.now.supply ≡ 1000 = search rules in
    search (rules, starts _ long c.args.self.now.heating c.total_demand-wanted.result c.args.writer.now (omega arith))

pub overflow_add-given : goal.overflow_add-given
overflow_add-given c =
    let long : length c.args.self.now.loads.now.supply ≡ 1000 = search rules in
    let heating = heating_few _ _ _ (enough _ _ _ c.args.self.now.least) in
    omega (arith, given_few _ long _ _ _ _ c.in-Some.ensures.steps.1.0 c.loop-d.invariant.1 (omega arith) c.args.self.now.loads.now.supply_few)

pub loop-d-preserved : goal.loop-d-preserved
loop-d-preserved c =
    let long : length c.args.self.now.loads.now.supply ≡ 1000 = search rules in
    let index = c.in-Some.ensures.steps.1.1 in (
      omega (arith, c.in-Some.ensures.steps.0),
      goes_on _ long _ _ _ _ c.in-Some.ensures.steps.1.0 c.loop-d.invariant.1 (omega (arith, index)) (omega (arith, c.min-spare.ensures, c.saturating_sub.ensures)) c.add.ensures,
    )

pub returns : goal.returns
returns c =
    let long : length c.args.self.now.loads.now.supply ≡ 1000 = search rules in
    rw c.total_demand-wanted.ensures.value at (ends _ long _ _ c.in-None.ensures.steps.1.0 c.loop-d.invariant.1)
