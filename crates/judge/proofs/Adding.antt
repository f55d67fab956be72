-- Sums over streams in fours and over transfers in threes.
use Rattle.std.proofs.Common.{◌≡◌, ℕ, ◌+◌, Bool, true, false, cond, not, ◌&&◌, eqb, List, [], ◌∷◌, sum_by, slice_index, refl, ap, ap₂, ◌∙◌, arith}
use Rattle.std.specs.List.{filter}
use Rattle.std.proofs.lemmas.List.Sums.{sum_by-cons}
use Rattle.streams.specs.declared.model.Kind.TheVariants.{Hot, Cold}
use Rattle.streams.specs.Heat.{within, is, heat, load, supply_of, demand_of}
use Rattle.plans.specs.Transfers.{sent, got}
use Rattle.judge.specs.Pieces.{streams_of, transfers_of, heat_in}

-- what is added for an item that passes the test, and nothing for another
counted : {X : Type 0} (b : Bool) (f : X → ℕ) (x : X) (xs : List X) → sum_by f (cond b (x ∷ xs) xs) ≡ cond b (f x) 0 + sum_by f xs
counted true f x xs = sum_by-cons f x xs
counted false f x xs = omega arith

-- hot by the mark 1, and cold by any other
hot : (b w : Bool) (rate : ℕ) → cond b (cond w rate 0) 0 ≡ cond (is (cond b Hot Cold) Hot && w) rate 0
hot true w rate = refl
hot false w rate = refl

cold : (b w : Bool) (rate : ℕ) → cond (not b) (cond w rate 0) 0 ≡ cond (is (cond b Hot Cold) Cold && w) rate 0
cold true w rate = refl
cold false w rate = refl

pub given : (fours : List (List ℕ)) (d : ℕ) → sum_by (heat_in 0 d) (filter (λ s. eqb (slice_index s 0) 1) fours) ≡ supply_of (streams_of fours) d
unfolding heat load
given [] d = refl
given (s ∷ fours) d =
    counted (eqb (slice_index s 0) 1) (heat_in 0 d) s (filter (λ s. eqb (slice_index s 0) 1) fours)
    ∙ ap₂ ◌+◌ (hot (eqb (slice_index s 0) 1) (within (slice_index s 1 + 0) (slice_index s 2 + 0) d) (slice_index s 3)) (given fours d)

pub wanted : (fours : List (List ℕ)) (gap d : ℕ) → sum_by (heat_in gap d) (filter (λ s. not (eqb (slice_index s 0) 1)) fours) ≡ demand_of gap (streams_of fours) d
unfolding heat load
wanted [] gap d = refl
wanted (s ∷ fours) gap d =
    counted (not (eqb (slice_index s 0) 1)) (heat_in gap d) s (filter (λ s. not (eqb (slice_index s 0) 1)) fours)
    ∙ ap₂ ◌+◌ (cold (eqb (slice_index s 0) 1) (within (slice_index s 1 + gap) (slice_index s 2 + gap) d) (slice_index s 3)) (wanted fours gap d)

pub all_sent : (threes : List (List ℕ)) (d : ℕ) → sum_by (λ t. slice_index t 2) (filter (λ t. eqb (slice_index t 0) d) threes) ≡ sent (transfers_of threes) d
unfolding sent
all_sent [] d = refl
all_sent (t ∷ threes) d =
    counted (eqb (slice_index t 0) d) (λ t. slice_index t 2) t (filter (λ t. eqb (slice_index t 0) d) threes)
    ∙ ap (λ n. cond (eqb (slice_index t 0) d) (slice_index t 2) 0 + n) (all_sent threes d)

pub all_got : (threes : List (List ℕ)) (d : ℕ) → sum_by (λ t. slice_index t 2) (filter (λ t. eqb (slice_index t 1) d) threes) ≡ got (transfers_of threes) d
unfolding got
all_got [] d = refl
all_got (t ∷ threes) d =
    counted (eqb (slice_index t 1) d) (λ t. slice_index t 2) t (filter (λ t. eqb (slice_index t 1) d) threes)
    ∙ ap (λ n. cond (eqb (slice_index t 1) d) (slice_index t 2) 0 + n) (all_got threes d)
