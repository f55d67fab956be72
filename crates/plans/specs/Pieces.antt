-- Pieces of the planner's work; inner notions, which no public promise cites.
use Rattle.std.specs.Prelude.{◌≡◌, ℕ, ◌+◌, ◌-◌, ◌*◌, ◌<◌, ◌≤◌, min, cond, ◌⊎◌, List, [], ◌∷◌, ◌++◌, length, take, drop, ◌==◌}
use Rattle.std.specs.List.{AllByRecursion}
use Rattle.streams.specs.Heat.{sum_from}
use Rattle.plans.specs.declared.transfers.Transfer.{Transfer}
use Rattle.plans.specs.declared.transfers.Writer.{Writer}
use Rattle.plans.specs.Transfers.{outside, flat, sent, got, Ordered}

-- a transfer, unless it is of nothing
unfoldable pub some : Transfer → List Transfer
some t = cond (t.heat == 0) [] (t ∷ [])

-- the words ws in place of those that stand from k on
abbrev pub splice : ℕ → List ℕ → List ℕ → List ℕ
splice k ws room = take k room ++ (ws ++ drop (k + length ws) room)

-- ts are added behind what was written before, in the same room, and what is behind them is as it was
pub record Added (w w₁ : Writer) (ts : List Transfer) : Type 0 where
  pub same_room : w₁.room.ghost_name ≡ w.room.ghost_name
  pub size : length w₁.room.now ≡ length w.room.now
  pub begun : 3 * w.count ≤ length w.room.now
  pub count : w₁.count ≡ w.count + length ts
  pub room_is : w₁.room.now ≡ splice (3 * w.count) (flat ts) w.room.now

-- it goes to its own degree or a lower one, or to the river
abbrev pub Falling : Transfer → Type 0
Falling t = (t.to ≤ t.from) ⊎ (t.to ≡ outside)

-- the boiler gives first, then the warmest degrees: of what d gives, so much comes when all that is wanted is met
unfoldable pub spare : (h : ℕ → ℕ) → (heating wanted d : ℕ) → ℕ
spare h heating wanted d = min (h d) ((heating + sum_from 1000 d h) - wanted)

-- what is spare goes to the river, which takes from no degree where the boiler and those from there up give no more than is wanted
pub record Rejected (h : ℕ → ℕ) (heating wanted : ℕ) (w w₁ : Writer) : Type 0 where
  pub ts : List Transfer
  pub written : Added w w₁ ts
  pub ordered : Ordered ts
  pub river : AllByRecursion (λ t. t.to ≡ outside) ts
  pub sent_is : (d : ℕ) → d < 1000 → sent ts d ≡ spare h heating wanted d
  pub boiler : sent ts outside ≡ 0
  pub few : (d : ℕ) → heating + sum_from 1000 d h ≤ wanted → length ts ≤ d

-- there is room for 2000 transfers more, less those to the river
abbrev pub Roomy : (h c : ℕ → ℕ) (heating : ℕ) → Writer → Type 0
Roomy h c heating w = (d : ℕ) → heating + sum_from 1000 d h ≤ sum_from 1000 0 c → 3 * w.count + 6000 ≤ length w.room.now + 3 * d

-- all that is wanted is met, by all that is bought and all that is not spare
pub record Served (h c : ℕ → ℕ) (heating : ℕ) (w w₁ : Writer) : Type 0 where
  pub ts : List Transfer
  pub written : Added w w₁ ts
  pub ordered : Ordered ts
  pub degrees : AllByRecursion (λ t. t.to < 1000) ts
  pub falling : AllByRecursion Falling ts
  pub sent_is : (d : ℕ) → d < 1000 → sent ts d + spare h heating (sum_from 1000 0 c) d ≡ h d
  pub boiler : sent ts outside ≡ heating
  pub got_is : (e : ℕ) → e < 1000 → got ts e ≡ c e
  pub few : (d : ℕ) × (heating + sum_from 1000 d h ≤ sum_from 1000 0 c) × (length ts + d ≤ 2000)
