use Rattle.std.proofs.Common.{◌+◌}
use Rattle.streams.specs.Loaded.{supply_in, demand_in}
use Rattle.plans.proofs.Serving.{Serving}
use Rattle.plans.proofs.planner.Planner.serve.Given as goal

abbrev pub invariant-loop-cold : goal.invariant-loop-cold
invariant-loop-cold l = Serving (supply_in l.self.loads.now) (demand_in l.self.loads.now) l.self.heating l.from l.hot l.to l.cold l.initial.writer l.writer

abbrev pub decreases-loop-cold : goal.decreases-loop-cold
decreases-loop-cold l = l.from + l.to
