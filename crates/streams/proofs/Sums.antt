-- Laws of sums over degrees: below a degree, and from a degree up.
use Rattle.std.proofs.Common.{◌≡◌, ℕ, zero, suc, ◌+◌, ◌-◌, ◌<◌, ◌≤◌, sym, refl, inl, inr, add-zero, add-suc, arith}
use Rattle.std.proofs.lemmas.Bool.{cases_lt}
use Rattle.streams.specs.Heat.{sum_below, sum_from}

pub sum_ext : (n : ℕ) (f g : ℕ → ℕ) → ((i : ℕ) → i < n → f i ≡ g i) → sum_below n f ≡ sum_below n g
unfolding sum_below
sum_ext zero f g e = refl
sum_ext (suc n) f g e = omega (arith, sum_ext n f g (λ i h. e i (omega arith)), e n (omega arith))

pub sum_add : (n : ℕ) (f g : ℕ → ℕ) → sum_below n (λ i. f i + g i) ≡ sum_below n f + sum_below n g
unfolding sum_below
sum_add zero f g = refl
sum_add (suc n) f g = omega (arith, sum_add n f g)

pub sum_zero : (n : ℕ) (f : ℕ → ℕ) → ((i : ℕ) → i < n → f i ≡ 0) → sum_below n f ≡ 0
unfolding sum_below
sum_zero zero f e = refl
sum_zero (suc n) f e = omega (arith, sum_zero n f (λ i h. e i (omega arith)), e n (omega arith))

pub sum_swap : (n m : ℕ) (f : ℕ → ℕ → ℕ) → sum_below n (λ i. sum_below m (λ j. f i j)) ≡ sum_below m (λ j. sum_below n (λ i. f i j))
unfolding sum_below
sum_swap zero m f = sym (sum_zero m (λ j. 0) (λ i h. refl))
sum_swap (suc n) m f = omega (arith, sum_swap n m f, sum_add m (λ j. sum_below n (λ i. f i j)) (f n))

pub term_le_sum : (n : ℕ) (f : ℕ → ℕ) (i : ℕ) → i < n → f i ≤ sum_below n f
unfolding sum_below
term_le_sum zero f i h = omega arith
term_le_sum (suc n) f i h = grind (arith, term_le_sum n f i)

sum_split : (a n : ℕ) (f : ℕ → ℕ) → sum_below (a + n) f ≡ sum_below a f + sum_below n (λ i. f (a + i))
unfolding sum_below
sum_split a zero f = rw add-zero (omega arith)
sum_split a (suc n) f = rw add-suc (omega (arith, sum_split a n f))

-- a sum is what lies below a degree and what lies from there up
pub split_at : (top d : ℕ) (f : ℕ → ℕ) → d ≤ top → sum_below top f ≡ sum_below d f + sum_from top d f
unfolding sum_from
split_at top d f l = let e : d + (top - d) ≡ top = omega arith in rw e at (sum_split d (top - d) f)

pub from_ext : (top d : ℕ) (f g : ℕ → ℕ) → ((i : ℕ) → i < top → f i ≡ g i) → sum_from top d f ≡ sum_from top d g
unfolding sum_from
from_ext top d f g e = sum_ext (top - d) _ _ (λ i l. e (d + i) (omega arith))

pub from_top : (top d : ℕ) (f : ℕ → ℕ) → top ≤ d → sum_from top d f ≡ 0
unfolding sum_from sum_below
from_top top d f l = let e : top - d ≡ 0 = omega arith in rw e refl

pub from_bottom : (top : ℕ) (f : ℕ → ℕ) → sum_from top 0 f ≡ sum_below top f
unfolding sum_below
from_bottom top f = omega (arith, split_at top 0 f (omega arith))

pub from_step : (top d : ℕ) (f : ℕ → ℕ) → d < top → sum_from top d f ≡ sum_from top (suc d) f + f d
unfolding sum_below
from_step top d f l = omega (arith, split_at top d f (omega arith), split_at top (suc d) f l)

sum_rises : (d e : ℕ) (f : ℕ → ℕ) → d ≤ e → sum_below d f ≤ sum_below e f
sum_rises d e f l = omega (arith, split_at e d f l)

pub from_falls : (top d e : ℕ) (f : ℕ → ℕ) → d ≤ e → sum_from top e f ≤ sum_from top d f
from_falls top d e f l =
    elim (cases_lt e top) [
      | inl g ↦ omega (arith, split_at top d f (omega arith), split_at top e f (omega arith), sum_rises d e f l)
      | inr g ↦ omega (arith, from_top top e f g)
    ]

pub term_le_from : (top d : ℕ) (f : ℕ → ℕ) (a : ℕ) → d ≤ a → a < top → f a ≤ sum_from top d f
unfolding sum_from
term_le_from top d f a h l = let e : d + (a - d) ≡ a = omega arith in rw e at (term_le_sum (top - d) (λ i. f (d + i)) (a - d) (omega arith))
