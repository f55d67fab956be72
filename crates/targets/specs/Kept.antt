-- What a gap means: in the streams' own temperatures, and for what has to be bought.
use Rattle.std.specs.Prelude.{◌≡◌, ℕ, suc, ◌+◌, ◌<◌, ◌≤◌, List, [], ◌∷◌}
use Rattle.std.specs.List.{ContainsAt}
use Rattle.streams.specs.declared.model.Kind.TheVariants.{Hot, Cold}
use Rattle.streams.specs.declared.model.Stream.{Stream}
use Rattle.streams.specs.Heat.{supply_of, demand_of}
use Rattle.targets.specs.Deficits.{target}
use Rattle.targets.specs.Plans.{Plan, Feasible}

-- some hot stream of the list gives in degree d; some cold one takes in degree c of its own, which with the gap is e; and both ends of d lie at
-- least the gap above the same ends of c
pub record Kept (gap : ℕ) (ss : List Stream) (d e : ℕ) : Type 0 where
  pub hot : Stream
  pub hot_listed : ContainsAt ss hot
  pub hot_kind : hot.kind ≡ Hot
  pub hot_low : hot.low ≤ d
  pub hot_high : d < hot.high
  pub cold : Stream
  pub cold_listed : ContainsAt ss cold
  pub cold_kind : cold.kind ≡ Cold
  pub c : ℕ
  pub c_is : c + gap ≡ e
  pub cold_low : cold.low ≤ c
  pub cold_high : c < cold.high
  pub lower_ends : c + gap ≤ d
  pub upper_ends : suc c + gap ≤ suc d

-- wherever a feasible plan passes anything, the gap is kept
abbrev pub KeepsGap : ℕ → ℕ → List Stream → Type 0
KeepsGap top gap ss =
    (p : Plan) (d e : ℕ) → Feasible top (supply_of ss) (demand_of gap ss) p → d < top → e < top → 0 < p.passes d e → Kept gap ss d e

-- with this gap every cold stream stays below the top
abbrev pub ColdBelow : ℕ → ℕ → List Stream → Type 0
ColdBelow top gap [] = Unit {0}
ColdBelow top gap (s ∷ ss) = (s.kind ≡ Cold → s.high + gap ≤ top) × ColdBelow top gap ss

-- a smaller gap never needs more, if with the larger one every cold stream stays below the top
abbrev pub SmallerGap : Type 0
SmallerGap =
    (top small large : ℕ) (ss : List Stream) → small ≤ large → ColdBelow top large ss → target top (supply_of ss) (demand_of small ss) ≤ target top (supply_of ss) (demand_of large ss)
