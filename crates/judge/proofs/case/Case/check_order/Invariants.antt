use Rattle.std.proofs.Common.{◌≡◌, None}
use Rattle.judge.specs.Pieces.{transfers_of, disorder}
use Rattle.judge.proofs.Passing.{rest}
use Rattle.judge.proofs.case.Case.check_order.Given as goal

abbrev pub invariant-loop-place : goal.invariant-loop-place
invariant-loop-place l = disorder l.before l.place (rest l.place l.self.plan.now) ≡ disorder None 0 (transfers_of l.self.plan.now)
