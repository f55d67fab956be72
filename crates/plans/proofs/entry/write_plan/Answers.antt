use Rattle.streams.specs.Loaded.{LoadsOf}
use Rattle.streams.specs.Rules.{streams_in}
use Rattle.targets.specs.Found.{FoundOf}
use Rattle.targets.proofs.Promises.{found_of}
use Rattle.plans.proofs.Promised.{cheapest_plan}
use Rattle.plans.proofs.entry.write_plan.Goals as goal

pub returns : goal.returns
returns c =
    let checked = c.in_ok-table.ensures in
    let exact : LoadsOf c.args.gap (streams_in c.args.streams.now) c.loads-loads.result = rw (checked.1, checked.2) at c.loads-loads.ensures.exact in
    let found : FoundOf c.args.gap (streams_in c.args.streams.now) c.of-targets.result
    = rw (checked.1, checked.2) at (found_of c.in_ok-table.table _ _ c.loads-loads.ensures c.of-targets.ensures) in
    (checked.0, found, cheapest_plan _ _ _ _ _ _ _ exact found.found c.lay_out-transfers.ensures)
