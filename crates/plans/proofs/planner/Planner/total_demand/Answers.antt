use Rattle.std.proofs.Common.{◌≡◌, ◌≤◌, length, rules}
use Rattle.std.specs.List.{sum}
use Rattle.plans.proofs.Totals.{sum_few, sum_is}
use Rattle.plans.proofs.planner.Planner.total_demand.Goals as goal

pub sum-requires-clause-fits : goal.sum-requires-clause-fits
sum-requires-clause-fits c =
    let long : length c.args.self.now.loads.now.demand ≡ 1000 = search rules in
    let few : sum c.args.self.now.loads.now.demand ≤ 64000000000 = sum_few _ long c.args.self.now.loads.now.demand_few in
    search rules

pub returns : goal.returns
returns c =
    let long : length c.args.self.now.loads.now.demand ≡ 1000 = search rules in
    let few = sum_few _ long c.args.self.now.loads.now.demand_few in
    let s = sum_is c.args.self.now.loads.now.demand long in
    search rules
