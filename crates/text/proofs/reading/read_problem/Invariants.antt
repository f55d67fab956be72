use Rattle.std.proofs.Common.{◌≡◌}
use Rattle.lexing.specs.Lexing.{lines_to_come}
use Rattle.text.specs.Asked.{asked_from, asked_in, asked_by}
use Rattle.text.proofs.reading.read_problem.Given as goal

abbrev pub invariant-loop-place : goal.invariant-loop-place
invariant-loop-place l = asked_from (asked_by l.problem) l.place-iterator.count (lines_to_come l.place-iterator.iter) ≡ asked_in l.text
