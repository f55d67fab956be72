use Rattle.std.proofs.Common.{◌≡◌}
use Rattle.std.specs.Slice.Iter.{iter_rest}
use Rattle.std.specs.Iterator.Adapters.{rev_source, enumerate_source, enumerate_count}
use Rattle.plans.proofs.Rejecting.{Rejecting}
use Rattle.plans.proofs.planner.Planner.reject.Given as goal

abbrev pub invariant-loop-d : goal.invariant-loop-d
invariant-loop-d l =
    (enumerate_count (rev_source l.d-iterator) ≡ 0)
    × Rejecting l.self.loads.now.supply (iter_rest (enumerate_source (rev_source l.d-iterator))) l.self.heating l.wanted l.given l.initial.writer l.writer
