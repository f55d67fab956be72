-- A part of a list, each of its numbers raised by as much.
use Rattle.std.proofs.Common.{◌≡◌, ℕ, ◌+◌, ◌-◌, ◌≤◌, cond, ltb, List, length, get_or, arith}
use Rattle.std.proofs.lemmas.Bool.Decides.{nat_tests}
use Rattle.std.proofs.lemmas.List.{places}
use borrow.Rule.Slice.PartMut.{put_mid, mid_of}
use Rattle.streams.specs.Heat.{within}

-- ys are the numbers of xs from a up to below e, of which the first i, and so all, were raised
pub raised_part : (a e rate i : ℕ) (xs ys : List ℕ) → a ≤ e → e ≤ length xs → length ys ≡ length (mid_of a (e - a) xs) → length (mid_of a (e - a) xs) ≤ i →
    ((k : ℕ) → get_or ys k 0 ≡ get_or (mid_of a (e - a) xs) k 0 + cond (ltb k i) rate 0) → (d : ℕ) →
    get_or (put_mid a (e - a) xs ys) d 0 ≡ get_or xs d 0 + cond (within a e d) rate 0
raised_part a e rate i xs ys l m n all each d = let raised = each (d - a) in grind (arith, places, nat_tests)
