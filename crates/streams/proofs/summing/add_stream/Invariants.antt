use Rattle.std.proofs.Common.{◌≡◌, ℕ, ◌+◌, cond, get_or, nat_lt}
use Rattle.streams.proofs.summing.add_stream.Given as goal

abbrev pub invariant-loop-sum : goal.invariant-loop-sum
invariant-loop-sum l = (k : ℕ) → get_or l.sum-items k 0 ≡ get_or l.initial.sum-items k 0 + cond (nat_lt k l.sum-index) l.s.rate 0
