use Rattle.std.proofs.Common.{ℕ, ◌<◌, ◌≤◌}
use Rattle.judge.specs.Pieces.{streams_of, transfers_of, BalancedFor}
use Rattle.judge.proofs.case.Case.check_balance.Given as goal

abbrev pub invariant-loop-degree : goal.invariant-loop-degree
invariant-loop-degree l = (k : ℕ) → l.degree ≤ k → k < 1000 → BalancedFor (streams_of l.self.streams.now) l.self.gap (transfers_of l.self.plan.now) k
