-- All that is taken, as the sum of a list.
use Rattle.std.proofs.Common.{◌≡◌, ℕ, zero, suc, ◌+◌, ◌<◌, ◌≤◌, List, length, get_or, take, sym, ◌∙◌, add-one, arith}
use Rattle.std.specs.List.{sum}
use Rattle.std.proofs.lemmas.List.{take_all}
use Rattle.std.proofs.lemmas.List.Sums.{fold_more, sum_by-le}
use Rattle.std.proofs.lemmas.List.Elements.{All-from_get_or}
use Rattle.streams.specs.Heat.{sum_below, sum_from}
use Rattle.streams.proofs.Sums.{from_bottom}

-- the first numbers of a list, and the same places
sum_taken : (xs : List ℕ) (n : ℕ) → n ≤ length xs → sum (take n xs) ≡ sum_below n (λ d. get_or xs d 0)
unfolding sum_below
sum_taken xs zero l = omega arith
sum_taken xs (suc n) l = omega (arith, rw add-one at (fold_more (λ a x. a + x) 0 xs n 0 l), sum_taken xs n (omega arith))

module _ (xs : List ℕ) (long : length xs ≡ 1000) where
  pub sum_is : sum xs ≡ sum_from 1000 0 (λ d. get_or xs d 0)
  sum_is = let all : take 1000 xs ≡ xs = take_all 1000 xs (omega arith) in rw all at (sum_taken xs 1000 (omega arith)) ∙ sym (from_bottom 1000 _)

  pub sum_few : ((d : ℕ) → d < 1000 → get_or xs d 0 ≤ 64000000) → sum xs ≤ 64000000000
  sum_few f = omega (arith, sum_by-le (λ x. x) 64000000 xs (All-from_get_or (λ x. x ≤ 64000000) xs 0 (λ d l. f d (omega arith))))
