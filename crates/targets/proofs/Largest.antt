-- The largest value of a function below a number.
use Rattle.std.proofs.Common.{◌≡◌, ℕ, zero, suc, ◌<◌, ◌≤◌, ◌⊎◌, refl, inl, inr, arith}
use Rattle.std.proofs.lemmas.Bool.{cases_lt}
use Rattle.targets.specs.Deficits.{most_below}

pub most_least : (n : ℕ) (f : ℕ → ℕ) (m : ℕ) → ((i : ℕ) → i < n → f i ≤ m) → most_below n f ≤ m
unfolding most_below
most_least zero f m e = omega arith
most_least (suc n) f m e = omega (arith, most_least n f m (λ i h. e i (omega arith)), e n (omega arith))

pub le_most : (n : ℕ) (f : ℕ → ℕ) (i : ℕ) → i < n → f i ≤ most_below n f
unfolding most_below
le_most zero f i h = omega arith
le_most (suc n) f i h = grind (arith, le_most n f i)

-- it is one of the values, or 0
pub most_met : (n : ℕ) (f : ℕ → ℕ) → (most_below n f ≡ 0) ⊎ ((i : ℕ) × (i < n) × (f i ≡ most_below n f))
unfolding most_below
most_met zero f = inl refl
most_met (suc n) f =
    elim (cases_lt (most_below n f) (f n)) [
      | inl l ↦ inr (n, omega arith, omega arith)
      | inr k ↦ elim (most_met n f) [ inl z ↦ inl (omega arith) | inr m ↦ inr (m.0, omega arith, omega arith) ]
    ]

-- and it alone is so
pub most_is : (n : ℕ) (f : ℕ → ℕ) (m : ℕ) → ((i : ℕ) → i < n → f i ≤ m) → ((m ≡ 0) ⊎ ((i : ℕ) × (i < n) × (f i ≡ m))) → m ≡ most_below n f
most_is n f m up (inl z) = omega (arith, most_least n f m up)
most_is n f m up (inr w) = omega (arith, most_least n f m up, le_most n f w.0 w.1)

pub most_ext : (n : ℕ) (f g : ℕ → ℕ) → ((i : ℕ) → i < n → f i ≡ g i) → most_below n f ≡ most_below n g
unfolding most_below
most_ext zero f g e = refl
most_ext (suc n) f g e = omega (arith, most_ext n f g (λ i h. e i (omega arith)), e n (omega arith))
