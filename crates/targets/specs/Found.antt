-- What is found of supply and demand, and of streams.
use Rattle.std.specs.Prelude.{◌≡◌, ℕ, ◌+◌, List}
use Rattle.std.specs.List.Sorted.{IsPermutation}
use Rattle.streams.specs.declared.model.Stream.{Stream}
use Rattle.streams.specs.Heat.{sum_below, supply_of, demand_of}
use Rattle.streams.specs.Loaded.{Cut}
use Rattle.targets.specs.declared.Targets.{Targets}
use Rattle.targets.specs.Deficits.{deficit, target, Lowest}
use Rattle.targets.specs.Plans.{Least, Accounted, Closes}
use Rattle.targets.specs.Kept.{KeepsGap, SmallerGap}

-- heating is the most that is lacking from any degree up, and the least that any plan buys; cooling follows from it; the pinch is the lowest
-- degree from which as much is lacking, and there is one just if anything has to be bought
pub record Found (supply demand : ℕ → ℕ) (t : Targets) : Type 0 where
  pub heating_is : t.heating ≡ target 1000 supply demand
  pub cooling_is : sum_below 1000 supply + t.heating ≡ sum_below 1000 demand + t.cooling
  pub pinch_is : Lowest 1000 (deficit 1000 supply demand) t.heating t.pinch
  pub least : Least 1000 supply demand t.heating
  pub accounted : Accounted 1000 supply demand
  pub closes : Closes 1000 supply demand t.heating

-- the same for streams and a gap
abbrev pub FoundFor : ℕ → List Stream → Targets → Type 0
FoundFor gap ss t = Found (supply_of ss) (demand_of gap ss) t

-- of streams and a gap: their targets, which are also those of the streams in any other order, or with one of them cut in two; every feasible plan
-- keeps the gap; and a smaller gap never needs more
pub record FoundOf (gap : ℕ) (ss : List Stream) (t : Targets) : Type 0 where
  pub found : FoundFor gap ss t
  pub any_order : (ts : List Stream) → IsPermutation ss ts → FoundFor gap ts t
  pub any_cut : (ts : List Stream) → Cut ss ts → FoundFor gap ts t
  pub keeps_gap : KeepsGap 1000 gap ss
  pub smaller_gap : SmallerGap
