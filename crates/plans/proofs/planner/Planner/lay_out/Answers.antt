use Rattle.std.proofs.Common.{◌≤◌, length, rules}
use Rattle.streams.specs.Loaded.{supply_in, demand_in}
use Rattle.plans.specs.Promise.{LaidOut}
use Rattle.plans.proofs.Made.{laid_out}
use Rattle.plans.proofs.planner.Planner.lay_out.Goals as goal

pub returns : goal.returns
returns c =
    let enough : 6000 ≤ length c.new-writer.result.room.now = rw c.new-writer.ensures.as_it_was c.requires in
    let laid : LaidOut (supply_in c.args.self.now.loads.now) (demand_in c.args.self.now.loads.now) c.args.self.now.heating c.serve.new.writer.count c.args.room.now c.serve.new.writer.room.now
    = rw c.new-writer.ensures.as_it_was at (laid_out _ _ _ _ _ _ c.new-writer.ensures.count enough c.reject.ensures c.serve.ensures) in
    search (rules, laid)
