-- What is given from a place up, with the boiler as one more place above the degrees; and the two facts that the planner needs of the target.
use Rattle.std.proofs.Common.{◌≡◌, ℕ, suc, ◌+◌, ◌<◌, ◌≤◌, cond, leb, refl, inl, inr, arith}
use Rattle.std.proofs.lemmas.Bool.{cases_lt, le-leb, lt-leb}
use Rattle.streams.specs.Heat.{sum_from}
use Rattle.streams.proofs.Sums.{from_step, from_top, from_falls}
use Rattle.targets.specs.Deficits.{deficit, target}
use Rattle.targets.proofs.Largest.{le_most, most_met}

-- the boiler stands at 1000, above the degrees
unfoldable pub given : (ℕ → ℕ) → ℕ → ℕ → ℕ
given h heating d = cond (leb d 1000) (heating + sum_from 1000 d h) 0

module _ (h : ℕ → ℕ) (heating : ℕ) where
  pub given_at : (d : ℕ) → d ≤ 1000 → given h heating d ≡ heating + sum_from 1000 d h
  unfolding given
  given_at d l = rw (le-leb d 1000 l) refl

  pub given_past : (d : ℕ) → 1000 < d → given h heating d ≡ 0
  unfolding given
  given_past d l = rw (lt-leb d 1000 l) refl

  pub given_step : (d : ℕ) → d < 1000 → given h heating d ≡ given h heating (suc d) + h d
  given_step d l = omega (arith, given_at d (omega arith), given_at (suc d) (omega arith), from_step 1000 d h l)

  pub given_boiler : given h heating 1000 ≡ heating
  given_boiler = omega (arith, given_at 1000 (omega arith), from_top 1000 1000 h (omega arith))

  pub given_falls : (d e : ℕ) → d ≤ e → given h heating e ≤ given h heating d
  given_falls d e l =
      elim (cases_lt 1000 e) [
        | inl g ↦ omega (arith, given_past e g)
        | inr g ↦ omega (arith, given_at d (omega arith), given_at e g, from_falls 1000 d e h l)
      ]

-- so much, bought, is enough from every degree up, and just enough from some
pub record Enough (h c : ℕ → ℕ) (heating : ℕ) : Type 0 where
  pub covers : (d : ℕ) → d ≤ 1000 → sum_from 1000 d c ≤ heating + sum_from 1000 d h
  pub pinch : ℕ
  pub pinch_top : pinch ≤ 1000
  pub just : sum_from 1000 pinch c ≡ heating + sum_from 1000 pinch h

-- the target is so: where nothing is bought, at the top
pub enough : (h c : ℕ → ℕ) (heating : ℕ) → heating ≡ target 1000 h c → Enough h c heating
unfolding target deficit
enough h c heating e =
    let covers : (d : ℕ) → d ≤ 1000 → sum_from 1000 d c ≤ heating + sum_from 1000 d h
    = λ d l. elim (cases_lt d 1000) [ inl g ↦ omega (arith, le_most 1000 (deficit 1000 h c) d g) | inr g ↦ omega (arith, from_top 1000 d c g) ] in
    let at_top : heating ≡ 0 → Enough h c heating
    = λ z. record { covers = covers; pinch = 1000; pinch_top = omega arith; just = omega (arith, from_top 1000 1000 h (omega arith), from_top 1000 1000 c (omega arith)) } in
    elim (most_met 1000 (deficit 1000 h c)) [
      | inl z ↦ at_top (omega arith)
      | inr m ↦
          elim (cases_lt 0 (target 1000 h c)) [
            | inl g ↦ record { covers = covers; pinch = m.0; pinch_top = omega arith; just = omega arith }
            | inr g ↦ at_top (omega arith)
          ]
    ]

pub heating_few : (h c : ℕ → ℕ) (heating : ℕ) → Enough h c heating → heating ≤ sum_from 1000 0 c
heating_few h c heating en = omega (arith, en.just, from_falls 1000 0 en.pinch c (omega arith))
