-- What hot streams give and cold streams take in each degree, and sums over degrees.
use Rattle.std.specs.Prelude.{ℕ, zero, suc, ◌+◌, ◌-◌, Bool, true, false, cond, ◌&&◌, List, [], ◌∷◌, nat_le, nat_lt}
use Rattle.streams.specs.declared.model.Kind.{Kind}
use Rattle.streams.specs.declared.model.Kind.TheVariants.{Hot, Cold}
use Rattle.streams.specs.declared.model.Stream.{Stream}

-- the degrees from low up to below high
abbrev pub within : ℕ → ℕ → ℕ → Bool
within low high d = nat_le low d && nat_lt d high

abbrev pub is : Kind → Kind → Bool
is Hot Hot = true
is Hot Cold = false
is Cold Hot = false
is Cold Cold = true

-- the heat of a stream in degree d, if it is of kind k, counted as warmer by shift
unfoldable pub heat : Kind → ℕ → Stream → ℕ → ℕ
heat k shift s d = cond (is s.kind k && within (s.low + shift) (s.high + shift) d) s.rate 0

-- the heat of all streams of kind k there
unfoldable pub load : Kind → ℕ → List Stream → ℕ → ℕ
load k shift [] d = 0
load k shift (s ∷ ss) d = heat k shift s d + load k shift ss d

-- what hot streams give in each degree
abbrev pub supply_of : List Stream → ℕ → ℕ
supply_of ss = load Hot 0 ss

-- what cold streams take in each degree, counted as warmer by the gap
abbrev pub demand_of : ℕ → List Stream → ℕ → ℕ
demand_of gap ss = load Cold gap ss

-- over the degrees below n
unfoldable pub sum_below : ℕ → (ℕ → ℕ) → ℕ
sum_below zero f = 0
sum_below (suc n) f = sum_below n f + f n

-- from degree d up to below the top
unfoldable pub sum_from : ℕ → ℕ → (ℕ → ℕ) → ℕ
sum_from top d f = sum_below (top - d) (λ i. f (d + i))
