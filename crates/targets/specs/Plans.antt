-- Plans: what heats what, degree by degree.
use Rattle.std.specs.Prelude.{◌≡◌, ℕ, ◌+◌, ◌<◌, ◌≤◌}
use Rattle.streams.specs.Heat.{sum_below, sum_from}

-- how much passes from each degree to each degree, how much the boiler gives to each, and how much each gives to the river
pub record Plan : Type 0 where
  pub passes : ℕ → ℕ → ℕ
  pub heating : ℕ → ℕ
  pub cooling : ℕ → ℕ

-- every degree gives all that it has and gets all that it wants, and nothing passes to a higher one
pub record Feasible (top : ℕ) (supply demand : ℕ → ℕ) (p : Plan) : Type 0 where
  pub gives : (d : ℕ) → d < top → sum_below top (p.passes d) + p.cooling d ≡ supply d
  pub gets : (e : ℕ) → e < top → sum_below top (λ d. p.passes d e) + p.heating e ≡ demand e
  pub down : (d e : ℕ) → d < top → e < top → d < e → p.passes d e ≡ 0

-- what a plan buys, and what it sends to the river
unfoldable pub bought : ℕ → Plan → ℕ
bought top p = sum_below top p.heating

unfoldable pub wasted : ℕ → Plan → ℕ
wasted top p = sum_below top p.cooling

-- some feasible plan buys n, and no feasible plan whatever buys less
pub record Cheapest (top : ℕ) (supply demand : ℕ → ℕ) (n : ℕ) : Type 0 where
  pub plan : Plan
  pub feasible : Feasible top supply demand plan
  pub buys : bought top plan ≡ n
  pub no_less : (q : Plan) → Feasible top supply demand q → n ≤ bought top q

-- n is that number, and the only one
pub record Least (top : ℕ) (supply demand : ℕ → ℕ) (n : ℕ) : Type 0 where
  pub cheapest : Cheapest top supply demand n
  pub only : (m : ℕ) → Cheapest top supply demand m → m ≡ n

-- in every feasible plan supply and what is bought are demand and what goes to the river; so who buys no more sends no more to the river
pub record Accounted (top : ℕ) (supply demand : ℕ → ℕ) : Type 0 where
  pub all : (p : Plan) → Feasible top supply demand p → sum_below top supply + bought top p ≡ sum_below top demand + wasted top p
  pub no_more : (p q : Plan) → Feasible top supply demand p → Feasible top supply demand q → bought top p ≤ bought top q → wasted top p ≤ wasted top q

-- nothing passes across degree d, nothing below it is bought, nothing above it goes to the river
pub record Closed (top d : ℕ) (p : Plan) : Type 0 where
  pub none_across : (a b : ℕ) → d ≤ a → a < top → b < d → p.passes a b ≡ 0
  pub none_bought : (b : ℕ) → b < d → p.heating b ≡ 0
  pub none_wasted : (a : ℕ) → d ≤ a → a < top → p.cooling a ≡ 0

-- Wherever demand from d up is supply from there up and n, every feasible plan that buys no more than n is closed at d.
-- It would not do to ask only that the deficit at d is n: a supply of 1 in degree 1 and a demand of 1 in degree 0 lack nothing from degree 1 up, and
-- nothing has to be bought, yet all heat passes across degree 1. There demand from degree 1 up is less than supply, which the cut deficit hides.
abbrev pub Closes : ℕ → (supply demand : ℕ → ℕ) → ℕ → Type 0
Closes top supply demand n =
    (p : Plan) (d : ℕ) → Feasible top supply demand p → bought top p ≤ n → d ≤ top → sum_from top d demand ≡ sum_from top d supply + n → Closed top d p
