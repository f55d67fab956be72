use Rattle.std.proofs.Common.{◌≡◌}
use Rattle.std.specs.Slice.Iter.{iter_rest}
use Rattle.std.specs.Iterator.Adapters.{rev_source, enumerate_source, enumerate_count, zip_first, zip_second}
use Rattle.targets.proofs.Turns.{Turn}
use Rattle.targets.proofs.Targets.of.Given as goal

abbrev pub invariant-loop-degree : goal.invariant-loop-degree
invariant-loop-degree l =
    let degrees = rev_source (zip_first l.degree-iterator) in
    Turn l.loads (iter_rest (enumerate_source degrees)) (iter_rest (rev_source (zip_second l.degree-iterator))) l.so_far × (enumerate_count degrees ≡ 0)
