use Rattle.streams.proofs.Fours.{Read}
use Rattle.streams.proofs.checking.check.Given as goal

abbrev pub invariant-loop-place : goal.invariant-loop-place
invariant-loop-place l = Read l.gap l.numbers l.streams l.place
