-- A number, read digit by digit.
use Rattle.std.proofs.Common.{◌≡◌, ℕ, ◌+◌, ◌-◌, ◌*◌, ◌<◌, ◌≤◌, Bool, true, false, cond, ◌&&◌, ltb, leb, List, [], ◌∷◌, length, Some, None, Option, inl, inr, refl, arith}
use Rattle.std.proofs.lemmas.Bool.{lt-ltb, le-ltb, cases_lt, and_right}
use Rattle.std.specs.Option.{option_and_then}
use Rattle.lexing.specs.Lexing.{digits, value_after, with_digit, number_in}
use Rattle.lexing.proofs.Folding.{folded}

-- what is still to be read, after the value so far
abbrev number_from : ℕ → List ℕ → Option ℕ
number_from n bs = cond (digits bs && ltb (value_after n bs) 4294967296) (Some (value_after n bs)) None

-- a value only grows
value_grows : (n : ℕ) (bs : List ℕ) → n ≤ value_after n bs
value_grows n [] = omega arith
value_grows n (b ∷ bs) = omega (arith, value_grows (n * 10 + (b - 48)) bs)

-- one byte more, which may be a digit
read_byte : (digit : Bool) (n : ℕ) (bs : List ℕ) → (n < 4294967296 → folded with_digit n bs ≡ number_from n bs) →
    option_and_then (λ m. folded with_digit m bs) (cond (digit && ltb n 4294967296) (Some n) None) ≡ cond ((digit && digits bs) && ltb (value_after n bs) 4294967296) (Some (value_after n bs)) None
read_byte false n bs rest = refl
read_byte true n bs rest =
    elim (cases_lt n 4294967296) [
      | inl l ↦ rw (lt-ltb n 4294967296 l) (rest l)
      | inr l ↦ rw (le-ltb n 4294967296 l, and_right (digits bs) _ (le-ltb (value_after n bs) 4294967296 (omega (arith, value_grows n bs)))) refl
    ]

read_from : (bs : List ℕ) (n : ℕ) → n < 4294967296 → folded with_digit n bs ≡ number_from n bs
read_from [] n l = rw (lt-ltb n 4294967296 l) refl
read_from (b ∷ bs) n l = read_byte (leb 48 b && leb b 57) (n * 10 + (b - 48)) bs (read_from bs (n * 10 + (b - 48)))

pub read_word : (bs : List ℕ) → (length bs ≡ 0 → ⊥) → folded with_digit 0 bs ≡ number_in bs
unfolding number_in
read_word [] n = absurd (n refl)
read_word (b ∷ bs) n = read_from (b ∷ bs) 0 (omega arith)

pub number_none : (bs : List ℕ) → length bs ≡ 0 → number_in bs ≡ None
unfolding number_in
number_none [] e = refl
number_none (b ∷ bs) e = absurd (omega arith)
