use Rattle.std.proofs.Common.{◌≡◌, ◌≤◌, length, arith, rules}
use Rattle.std.specs.Slice.Iter.{iter_rest}
use Rattle.std.specs.Iterator.Adapters.{rev_source, enumerate_source, zip_first}
use Rattle.streams.proofs.Sums.{from_bottom}
use Rattle.streams.specs.Loaded.{supply_in, demand_in}
use Rattle.targets.proofs.Down.{heating_found, pinch_found, enough}
use Rattle.targets.proofs.Turns.{turn_none, fits, turn_more, turn_all}
use Rattle.targets.proofs.Promises.{found}
use Rattle.targets.proofs.Targets.of.Goals as goal

pub loop-degree-init : goal.loop-degree-init
loop-degree-init c =
    let lx : length c.args.loads.now.supply ≡ 1000 = search rules in
    let ly : length c.args.loads.now.demand ≡ 1000 = search rules in
    search (rules, turn_none c.args.loads.now lx ly)

pub lower-so_far-requires : goal.lower-so_far-requires
lower-so_far-requires c =
    let steps = c.in-Some.ensures.steps in
    let fit = fits _ _ _ _ steps.0.1.0 steps.1 c.loop-degree.invariant.0 in
    record { supply_fits = omega arith; demand_fits = omega arith }

pub loop-degree-preserved : goal.loop-degree-preserved
loop-degree-preserved c =
    let steps = c.in-Some.ensures.steps in (
      turn_more _ _ _ _ steps.0.1.0 steps.1 c.loop-degree.invariant.0 _ _ (omega (arith, steps.0.1.1, c.loop-degree.invariant.1)) c.lower-so_far.ensures,
      omega (arith, steps.0.0, c.loop-degree.invariant.1),
    )

pub overflow_sub-result : goal.overflow_sub-result
overflow_sub-result c =
    let z : length (iter_rest (enumerate_source (rev_source (zip_first c.loop-degree.degree-iterator)))) ≤ 0 = grind (arith, c.in-None.ensures.steps, c.loop-degree.invariant.0.even) in
    omega (arith, enough 1000 _ _ _ _ _ _ (omega arith) (turn_all _ _ _ _ z c.loop-degree.invariant.0))

pub returns : goal.returns
returns c =
    let z : length (iter_rest (enumerate_source (rev_source (zip_first c.loop-degree.degree-iterator)))) ≤ 0 = grind (arith, c.in-None.ensures.steps, c.loop-degree.invariant.0.even) in
    let d = turn_all _ _ _ _ z c.loop-degree.invariant.0 in
    found _ _ _ (heating_found 1000 _ _ _ _ _ _ d)
    (omega (arith, d.supply_is, d.demand_is, from_bottom 1000 (supply_in c.args.loads.now), from_bottom 1000 (demand_in c.args.loads.now), enough 1000 _ _ _ _ _ _ (omega arith) d))
    (pinch_found 1000 _ _ _ _ _ _ d)
