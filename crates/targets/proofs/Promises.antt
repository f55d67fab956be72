-- From what the way down finds to what is promised of it.
use Rattle.std.proofs.Common.{◌≡◌, ℕ, ◌+◌, ◌<◌, List, Some, None, Option, sym, ◌∙◌, arith}
use Rattle.streams.specs.declared.loads.Loads.{Loads}
use Rattle.streams.specs.declared.model.Stream.{Stream}
use Rattle.streams.specs.declared.table.StreamTable.{StreamTable}
use Rattle.streams.specs.Checked.{listed}
use Rattle.streams.specs.Heat.{sum_below, supply_of, demand_of}
use Rattle.streams.specs.Loaded.{supply_in, demand_in, LoadsOf, Loaded}
use Rattle.streams.proofs.Sums.{sum_ext, from_ext}
use Rattle.targets.specs.declared.Targets.{Targets}
use Rattle.targets.specs.Deficits.{deficit, target, Lowest}
use Rattle.targets.specs.Found.{Found, FoundFor, FoundOf}
use Rattle.targets.proofs.Largest.{most_ext}
use Rattle.targets.proofs.Balance.{accounted, closes}
use Rattle.targets.proofs.Optimal.{target_least}
use Rattle.targets.proofs.Gaps.{keeps_gap, smaller_gap}

pub found : (h c : ℕ → ℕ) (t : Targets) → t.heating ≡ target 1000 h c → sum_below 1000 h + t.heating ≡ sum_below 1000 c + t.cooling →
    Lowest 1000 (deficit 1000 h c) t.heating t.pinch → Found h c t
found h c t heating_is cooling_is pinch_is =
    record {
      heating_is = heating_is;
      cooling_is = cooling_is;
      pinch_is = pinch_is;
      least = rw heating_is (target_least 1000 h c);
      accounted = accounted 1000 h c;
      closes = closes 1000 h c t.heating;
    }

-- what is found depends on the degrees below the top alone
module _ (h c h₁ c₁ : ℕ → ℕ) (eh : (d : ℕ) → d < 1000 → h d ≡ h₁ d) (ec : (d : ℕ) → d < 1000 → c d ≡ c₁ d) where
  deficit_like : (d : ℕ) → deficit 1000 h c d ≡ deficit 1000 h₁ c₁ d
  unfolding deficit
  deficit_like d = omega (arith, from_ext 1000 d h h₁ eh, from_ext 1000 d c c₁ ec)

  target_like : target 1000 h c ≡ target 1000 h₁ c₁
  unfolding target
  target_like = most_ext 1000 (deficit 1000 h c) (deficit 1000 h₁ c₁) (λ d l. deficit_like d)

  lowest_like : (most : ℕ) (o : Option ℕ) → Lowest 1000 (deficit 1000 h c) most o → Lowest 1000 (deficit 1000 h₁ c₁) most o
  lowest_like most None s = s
  lowest_like most (Some d) s = (s.0, s.1, sym (deficit_like d) ∙ s.2, λ k l. omega (arith, s.3 k l, deficit_like k))

  pub found_like : (t : Targets) → Found h c t → Found h₁ c₁ t
  found_like t f =
      found h₁ c₁ t (f.heating_is ∙ target_like) (omega (arith, f.cooling_is, sum_ext 1000 h h₁ eh, sum_ext 1000 c c₁ ec))
      (lowest_like t.heating t.pinch f.pinch_is)

pub found_for : (gap : ℕ) (ss : List Stream) (l : Loads) (t : Targets) → LoadsOf gap ss l → Found (supply_in l) (demand_in l) t → FoundFor gap ss t
found_for gap ss l t e f = found_like (supply_in l) (demand_in l) (supply_of ss) (demand_of gap ss) e.supply_is e.demand_is t f

pub found_of : (s : StreamTable) (l : Loads) (t : Targets) → Loaded s l → Found (supply_in l) (demand_in l) t → FoundOf s.gap (listed s) t
found_of s l t loaded f =
    record {
      found = found_for s.gap (listed s) l t loaded.exact f;
      any_order = λ ss sh. found_for s.gap ss l t (loaded.any_order ss sh) f;
      any_cut = λ ss cut. found_for s.gap ss l t (loaded.any_cut ss cut) f;
      keeps_gap = keeps_gap 1000 s.gap (listed s);
      smaller_gap = smaller_gap;
    }
