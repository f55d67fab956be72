-- What is lacking from a degree up, and the most of it: what has to be bought.
use Rattle.std.specs.Prelude.{◌≡◌, ℕ, zero, suc, ◌-◌, ◌<◌, ◌≤◌, max, Some, None, Option}
use Rattle.streams.specs.Heat.{sum_from}

-- what cold streams take from degree d up, beyond what hot streams give from there up
unfoldable pub deficit : ℕ → (supply demand : ℕ → ℕ) → ℕ → ℕ
deficit top supply demand d = sum_from top d demand - sum_from top d supply

-- the largest value below n, or 0
unfoldable pub most_below : ℕ → (ℕ → ℕ) → ℕ
most_below zero f = 0
most_below (suc n) f = max (most_below n f) (f n)

-- the heating target: the most that is lacking from any degree up
unfoldable pub target : ℕ → (supply demand : ℕ → ℕ) → ℕ
target top supply demand = most_below top (deficit top supply demand)

-- the lowest degree at which so much is lacking, if anything is
abbrev pub Lowest : ℕ → (ℕ → ℕ) → ℕ → Option ℕ → Type 0
Lowest top f most None = most ≡ 0
Lowest top f most (Some d) = (d < top) × (1 ≤ most) × (f d ≡ most) × ((k : ℕ) → k < d → f k < most)
