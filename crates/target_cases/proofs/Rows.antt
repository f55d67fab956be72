-- The rows, computed.
use Rattle.std.proofs.Common.{◌≡◌, ℕ, zero, suc, ◌-◌, ◌<◌, ◌≤◌, Bool, true, ◌&&◌, ltb, Some, None, refl, ◌∙◌, arith}
use Rattle.std.proofs.lemmas.Bool.Decides.{nat_tests}
use Rattle.streams.specs.Heat.{heat, load, sum_below, supply_of, demand_of}
use Rattle.streams.proofs.Sums.{split_at}
use Rattle.targets.specs.Deficits.{deficit, most_below, target}
use Rattle.targets.proofs.Largest.{most_ext}
use Rattle.target_cases.specs.Four.{four, Row}

-- what is lacking from a degree up, by sums from below, which are computed once for all degrees
unfoldable lacking : (ℕ → ℕ) → (ℕ → ℕ) → ℕ → ℕ
lacking h c d = (sum_below 1000 c - sum_below d c) - (sum_below 1000 h - sum_below d h)

deficit_is : (h c : ℕ → ℕ) (d : ℕ) → d ≤ 1000 → deficit 1000 h c d ≡ lacking h c d
unfolding deficit lacking
deficit_is h c d l = omega (arith, split_at 1000 d h l, split_at 1000 d c l)

target_is : (h c : ℕ → ℕ) → target 1000 h c ≡ most_below 1000 (lacking h c)
unfolding target
target_is h c = most_ext 1000 (deficit 1000 h c) (lacking h c) (λ d l. deficit_is h c d (omega arith))

-- every value below n is below most, as a test that is computed
abbrev all_below : ℕ → (ℕ → ℕ) → ℕ → Bool
all_below zero f most = true
all_below (suc n) f most = all_below n f most && ltb (f n) most

each_below : (n : ℕ) (f : ℕ → ℕ) (most : ℕ) → all_below n f most ≡ true → (k : ℕ) → k < n → f k < most
each_below zero f most e k l = absurd (omega arith)
each_below (suc n) f most e k l = grind (arith, nat_tests, each_below n f most)

none_lacking : most_below 1000 (lacking (supply_of four) (demand_of 0 four)) ≡ 0
unfolding four heat load sum_below lacking most_below
none_lacking = refl

twenty_lacking : most_below 1000 (lacking (supply_of four) (demand_of 10 four)) ≡ 20
unfolding four heat load sum_below lacking most_below
twenty_lacking = refl

at_90 : lacking (supply_of four) (demand_of 10 four) 90 ≡ 20
unfolding four heat load sum_below lacking
at_90 = refl

less_below_90 : all_below 90 (lacking (supply_of four) (demand_of 10 four)) 20 ≡ true
unfolding four heat load sum_below lacking
less_below_90 = refl

pub without_gap : Row 0 0 10 None
unfolding four heat load sum_below
without_gap = record { heating_is = target_is (supply_of four) (demand_of 0 four) ∙ none_lacking; cooling_is = refl; pinch_is = refl }

pub with_gap_10 : Row 10 20 30 (Some 90)
unfolding four heat load sum_below
with_gap_10 =
    record {
      heating_is = target_is (supply_of four) (demand_of 10 four) ∙ twenty_lacking;
      cooling_is = refl;
      pinch_is = (
        omega arith,
        omega arith,
        deficit_is (supply_of four) (demand_of 10 four) 90 (omega arith) ∙ at_90,
        λ k l. omega (arith, deficit_is (supply_of four) (demand_of 10 four) k (omega arith), each_below 90 (lacking (supply_of four) (demand_of 10 four)) 20 less_below_90 k l),
      );
    }
