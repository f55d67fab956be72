-- Transfers: how they stand in the room, in which order, and the plan that they make.
use Rattle.std.specs.Prelude.{◌≡◌, ℕ, ◌+◌, ◌<◌, ◌≤◌, cond, ◌&&◌, ◌⊎◌, List, [], ◌∷◌, ◌==◌, ◌≢◌, nat_lt}
use Rattle.std.specs.List.{flat_map, AllByRecursion}
use Rattle.targets.specs.Plans.{Plan}
use Rattle.plans.specs.declared.transfers.Transfer.{Transfer}

-- the mark of the boiler, as what gives, and of the river, as what takes
abbrev pub outside : ℕ
outside = 65535

-- the mark of a place that gives: a degree, or the boiler, which stands above them all
unfoldable pub mark : ℕ → ℕ
mark d = cond (nat_lt d 1000) d outside

-- in the room they stand in threes
abbrev pub words : Transfer → List ℕ
words t = t.from ∷ t.to ∷ t.heat ∷ []

abbrev pub flat : List Transfer → List ℕ
flat ts = flat_map words ts

-- how much goes from a to b in all
unfoldable pub moved : List Transfer → ℕ → ℕ → ℕ
moved [] a b = 0
moved (t ∷ ts) a b = cond (t.from == a && t.to == b) t.heat 0 + moved ts a b

-- what all transfers from a come to, and all to b
unfoldable pub sent : List Transfer → ℕ → ℕ
sent [] a = 0
sent (t ∷ ts) a = cond (t.from == a) t.heat 0 + sent ts a

unfoldable pub got : List Transfer → ℕ → ℕ
got [] b = 0
got (t ∷ ts) b = cond (t.to == b) t.heat 0 + got ts b

-- the plan that transfers make
unfoldable pub plan_of : List Transfer → Plan
plan_of ts = record { passes = moved ts; heating = moved ts outside; cooling = λ d. moved ts d outside }

-- a degree, or outside
abbrev pub Place : ℕ → Type 0
Place a = (a < 1000) ⊎ (a ≡ outside)

-- something goes from a place to a place, and not from the boiler to the river
pub record Proper (t : Transfer) : Type 0 where
  pub something : 1 ≤ t.heat
  pub from_place : Place t.from
  pub to_place : Place t.to
  pub apart : t.from ≡ outside → t.to ≢ outside

-- a transfer stands before those to lower places, and for one place before those from lower ones
abbrev pub Above : ℕ → ℕ → Transfer → Type 0
Above a b t = (b < t.to) ⊎ ((b ≡ t.to) × (a < t.from))

abbrev pub Before : Transfer → Transfer → Type 0
Before t u = Above u.from u.to t

-- each is proper, and stands before all that follow: so none of the same two stands twice
abbrev pub Ordered : List Transfer → Type 0
Ordered [] = Unit {0}
Ordered (t ∷ ts) = Proper t × AllByRecursion (Before t) ts × Ordered ts
