-- What every feasible plan comes to above a degree, and what follows for what it buys.
use Rattle.std.proofs.Common.{◌≡◌, ℕ, ◌+◌, ◌-◌, ◌≤◌, refl, arith}
use Rattle.streams.specs.Heat.{sum_below, sum_from}
use Rattle.streams.proofs.Sums.{sum_ext, sum_add, sum_zero, sum_swap, split_at, from_bottom, term_le_sum, term_le_from}
use Rattle.targets.specs.Deficits.{deficit, target}
use Rattle.targets.specs.Plans.{Plan, Feasible, bought, wasted, Accounted, Closes}
use Rattle.targets.proofs.Largest.{most_least}

-- what passes from d and above to below d
unfoldable across : ℕ → ℕ → Plan → ℕ
across top d p = sum_from top d (λ a. sum_below d (p.passes a))

-- what passes between degrees from d up
unfoldable inside : ℕ → ℕ → Plan → ℕ
inside top d p = sum_from top d (λ a. sum_from top d (p.passes a))

module _ (top : ℕ) (h c : ℕ → ℕ) (p : Plan) (g : Feasible top h c p) (d : ℕ) (l : d ≤ top) where
  hot_side : sum_from top d h ≡ across top d p + inside top d p + sum_from top d p.cooling
  unfolding across inside sum_from
  hot_side =
      let e : sum_below (top - d) (λ i. h (d + i)) ≡ sum_below (top - d) (λ i. (sum_below d (p.passes (d + i)) + sum_from top d (p.passes (d + i))) + p.cooling (d + i))
      = sum_ext (top - d) _ _ (λ i k. omega (arith, g.gives (d + i) (omega arith), split_at top d (p.passes (d + i)) l)) in
      omega (
        arith,
        e,
        sum_add (top - d) (λ i. sum_below d (p.passes (d + i)) + sum_from top d (p.passes (d + i))) (λ i. p.cooling (d + i)),
        sum_add (top - d) (λ i. sum_below d (p.passes (d + i))) (λ i. sum_from top d (p.passes (d + i))),
      )

  cold_side : sum_from top d c ≡ inside top d p + sum_from top d p.heating
  unfolding inside sum_from
  cold_side =
      let e : sum_below (top - d) (λ j. c (d + j)) ≡ sum_below (top - d) (λ j. sum_below (top - d) (λ i. p.passes (d + i) (d + j)) + p.heating (d + j))
      = sum_ext (top - d) _ _ (λ j k. omega (
        arith,
        g.gets (d + j) (omega arith),
        split_at top d (λ x. p.passes x (d + j)) l,
        sum_zero d (λ x. p.passes x (d + j)) (λ x m. g.down x (d + j) (omega arith) (omega arith) (omega arith)),
      )) in
      omega (
        arith,
        e,
        sum_add (top - d) (λ j. sum_below (top - d) (λ i. p.passes (d + i) (d + j))) (λ j. p.heating (d + j)),
        sum_swap (top - d) (top - d) (λ i j. p.passes (d + i) (d + j)),
      )

  -- what is taken from d up, and what goes lower or to the river, is given there or bought
  balance : sum_from top d c + across top d p + sum_from top d p.cooling ≡ sum_from top d h + sum_from top d p.heating
  balance = omega (arith, hot_side, cold_side)

  buys : deficit top h c d ≤ bought top p
  unfolding deficit bought
  buys = omega (arith, balance, split_at top d p.heating l)

pub no_less : (top : ℕ) (h c : ℕ → ℕ) (p : Plan) → Feasible top h c p → target top h c ≤ bought top p
unfolding target
no_less top h c p g = most_least top (deficit top h c) (bought top p) (λ d l. buys top h c p g d (omega arith))

all_accounted : (top : ℕ) (h c : ℕ → ℕ) (p : Plan) → Feasible top h c p → sum_below top h + bought top p ≡ sum_below top c + wasted top p
unfolding across bought wasted sum_from sum_below
all_accounted top h c p g =
    omega (
      arith,
      balance top h c p g 0 (omega arith),
      from_bottom top h,
      from_bottom top c,
      from_bottom top p.heating,
      from_bottom top p.cooling,
      sum_zero (top - 0) (λ i. 0) (λ i l. refl),
    )

pub accounted : (top : ℕ) (h c : ℕ → ℕ) → Accounted top h c
accounted top h c =
    record {
      all = all_accounted top h c;
      no_more = λ p q gp gq l. omega (arith, all_accounted top h c p gp, all_accounted top h c q gq);
    }

pub closes : (top : ℕ) (h c : ℕ → ℕ) (m : ℕ) → Closes top h c m
unfolding across bought
closes top h c m p d g b l e =
    let w : sum_from top d c + across top d p + sum_from top d p.cooling ≡ sum_from top d h + sum_from top d p.heating = balance top h c p g d l in
    let s : sum_below top p.heating ≡ sum_below d p.heating + sum_from top d p.heating = split_at top d p.heating l in
    let x : across top d p ≡ 0 = omega arith in
    let r : sum_from top d p.cooling ≡ 0 = omega arith in
    let q : sum_below d p.heating ≡ 0 = omega arith in
    record {
      none_across = λ a b da at bd. omega (arith, term_le_sum d (p.passes a) b bd, term_le_from top d (λ y. sum_below d (p.passes y)) a da at);
      none_bought = λ b bd. omega (arith, term_le_sum d p.heating b bd);
      none_wasted = λ a da at. omega (arith, term_le_from top d p.cooling a da at);
    }
