-- The way down from the warmest degree: what is known once the degrees from d up are passed.
use Rattle.std.proofs.Common.{◌≡◌, ℕ, suc, ◌+◌, ◌-◌, ◌*◌, ◌<◌, ◌≤◌, max, ◌⊎◌, Some, None, Option, sym, refl, inl, inr, arith}
use Rattle.streams.specs.Heat.{sum_from}
use Rattle.streams.proofs.Sums.{from_step, from_top}
use Rattle.targets.specs.Deficits.{deficit, target, Lowest}
use Rattle.targets.proofs.Largest.{most_is}

-- the lowest of the degrees from d up at which so much is lacking, if anything is
abbrev pub LowestFrom : ℕ → ℕ → (ℕ → ℕ) → ℕ → Option ℕ → Type 0
LowestFrom top d f most None = most ≡ 0
LowestFrom top d f most (Some e) = (d ≤ e) × (e < top) × (1 ≤ most) × (f e ≡ most) × ((k : ℕ) → d ≤ k → k < e → f k < most)

pub record Down (top : ℕ) (h c : ℕ → ℕ) (d supply demand most : ℕ) (pinch : Option ℕ) : Type 0 where
  pub supply_is : supply ≡ sum_from top d h
  pub demand_is : demand ≡ sum_from top d c
  pub supply_bounded : supply ≤ (top - d) * 64000000
  pub demand_bounded : demand ≤ (top - d) * 64000000
  pub most_few : most ≤ demand
  pub most_covers : (k : ℕ) → d ≤ k → k < top → deficit top h c k ≤ most
  pub lowest : LowestFrom top d (deficit top h c) most pinch

module _ (top : ℕ) (h c : ℕ → ℕ) where
  pub starts : Down top h c top 0 0 0 None
  starts =
      record {
        supply_is = sym (from_top top top h (omega arith));
        demand_is = sym (from_top top top c (omega arith));
        supply_bounded = omega arith;
        demand_bounded = omega arith;
        most_few = omega arith;
        most_covers = λ k l g. absurd (omega arith);
        lowest = refl;
      }

  module _ (d supply demand most : ℕ) (pinch : Option ℕ) (inside : d < top) (few_h : h d ≤ 64000000) (few_c : c d ≤ 64000000) (s : Down top h c (suc d) supply demand most pinch) where
    here : deficit top h c d ≡ (demand + c d) - (supply + h d)
    unfolding deficit
    here = omega (arith, s.supply_is, s.demand_is, from_step top d h inside, from_step top d c inside)

    from_here : (most₁ : ℕ) → deficit top h c d ≤ most₁ → most ≤ most₁ → (k : ℕ) → d ≤ k → k < top → deficit top h c k ≤ most₁
    from_here most₁ l m k dk kt = grind (arith, s.most_covers k)

    step : (most₁ : ℕ) (pinch₁ : Option ℕ) → deficit top h c d ≤ most₁ → most ≤ most₁ → most₁ ≤ demand + c d → LowestFrom top d (deficit top h c) most₁ pinch₁ →
        Down top h c d (supply + h d) (demand + c d) most₁ pinch₁
    step most₁ pinch₁ l m few low =
        record {
          supply_is = omega (arith, s.supply_is, from_step top d h inside);
          demand_is = omega (arith, s.demand_is, from_step top d c inside);
          supply_bounded = omega (arith, s.supply_bounded);
          demand_bounded = omega (arith, s.demand_bounded);
          most_few = few;
          most_covers = from_here most₁ l m;
          lowest = low;
        }

    lower : (o : Option ℕ) → deficit top h c d < max most 1 → LowestFrom top (suc d) (deficit top h c) most o → LowestFrom top d (deficit top h c) most o
    lower None l s = s
    lower (Some e) l s = (omega (arith, s.0), s.1, s.2, s.3, λ k a b. grind (arith, s.4 k))

    -- no more is lacking here than above
    pub goes_on : (demand + c d) - (supply + h d) < max most 1 → Down top h c d (supply + h d) (demand + c d) most pinch
    goes_on l = step most pinch (omega (arith, here)) (omega arith) (omega (arith, s.most_few)) (lower pinch (omega (arith, here)) s.lowest)

    -- as much or more is lacking here
    pub meets_more : (lacking : ℕ) → lacking ≡ (demand + c d) - (supply + h d) → max most 1 ≤ lacking → Down top h c d (supply + h d) (demand + c d) lacking (Some d)
    meets_more lacking e l = step lacking (Some d) (omega (arith, here)) (omega arith) (omega arith) (omega arith, inside, omega arith, omega (arith, here), λ k a b. absurd (omega arith))

  met : (most : ℕ) (o : Option ℕ) → LowestFrom top 0 (deficit top h c) most o → (most ≡ 0) ⊎ ((i : ℕ) × (i < top) × (deficit top h c i ≡ most))
  met most None s = inl s
  met most (Some e) s = inr (e, s.1, s.3)

  lowest_of_all : (most : ℕ) (o : Option ℕ) → LowestFrom top 0 (deficit top h c) most o → Lowest top (deficit top h c) most o
  lowest_of_all most None s = s
  lowest_of_all most (Some e) s = (s.1, s.2, s.3, λ k l. s.4 k (omega arith) l)

  pub heating_found : (supply demand most : ℕ) (pinch : Option ℕ) → Down top h c 0 supply demand most pinch → most ≡ target top h c
  unfolding target
  heating_found supply demand most pinch s = most_is top (deficit top h c) most (λ i l. s.most_covers i (omega arith) l) (met most pinch s.lowest)

  pub pinch_found : (supply demand most : ℕ) (pinch : Option ℕ) → Down top h c 0 supply demand most pinch → Lowest top (deficit top h c) most pinch
  pinch_found supply demand most pinch s = lowest_of_all most pinch s.lowest

  -- all that is taken is given or bought
  pub enough : (supply demand most : ℕ) (pinch : Option ℕ) → 0 < top → Down top h c 0 supply demand most pinch → demand ≤ supply + most
  unfolding deficit
  enough supply demand most pinch l s = omega (arith, s.most_covers 0 (omega arith) l, s.supply_is, s.demand_is)
