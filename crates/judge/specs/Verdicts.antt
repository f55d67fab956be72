-- What each verdict on an adviser's plan says.
use Rattle.std.specs.Prelude.{◌≡◌, ℕ, ◌+◌, ◌*◌, ◌%◌, ◌<◌, ◌≤◌, List, [], ◌∷◌, length, take, Ok, Err, Result}
use Rattle.std.specs.List.{AllByRecursion}
use Rattle.streams.specs.Heat.{supply_of, demand_of}
use Rattle.streams.specs.Rules.{streams_in}
use Rattle.targets.specs.Plans.{Feasible}
use Rattle.plans.specs.declared.entry.Done.TheVariants.{Planned}
use Rattle.plans.specs.declared.transfers.Transfer.{Transfer}
use Rattle.plans.specs.Transfers.{plan_of, Ordered, sent, got}
use Rattle.plans.specs.Promise.{Promise}
use Rattle.judge.specs.declared.flaws.Flaw.{Flaw}
use Rattle.judge.specs.declared.flaws.Flaw.TheVariants.{Unfit, OutOfOrder, Unbalanced}

-- three numbers are a transfer: from, to, how much
abbrev pub transfer_in : ℕ → ℕ → ℕ → Transfer
transfer_in from to heat = record { from = from; to = to; heat = heat }

abbrev pub transfers_in : List ℕ → List Transfer
transfers_in [] = []
transfers_in (a ∷ []) = []
transfers_in (a ∷ (b ∷ [])) = []
transfers_in (a ∷ (b ∷ (c ∷ xs))) = transfer_in a b c ∷ transfers_in xs

-- the first n transfers of the room
abbrev pub advised : (room : List ℕ) → ℕ → List Transfer
advised room n = transfers_in (take (3 * n) room)

-- numbers in fours, of no more than 64 streams, and a room that has n transfers
pub record Fit (xs room : List ℕ) (n : ℕ) : Type 0 where
  pub fours : length xs % 4 ≡ 0
  pub few : length xs ≤ 256
  pub fits : 3 * n ≤ length room

-- it goes to a warmer degree
abbrev pub Rises : Transfer → Type 0
Rises t = (t.to < 1000) × (t.from < t.to)

-- each is proper and stands before all that follow, and none rises
pub record InOrder (ts : List Transfer) : Type 0 where
  pub ordered : Ordered ts
  pub none_rises : AllByRecursion (λ t. Rises t → ⊥) ts

-- degree d gives all that it has and gets all that it wants
pub record Balanced (xs : List ℕ) (gap : ℕ) (ts : List Transfer) (d : ℕ) : Type 0 where
  pub gives : sent ts d ≡ supply_of (streams_in xs) d
  pub gets : got ts d ≡ demand_of gap (streams_in xs) d

-- the plan is in order and feasible; or nothing can be judged; or the transfers before i are in order, and with i they aren't; or all are in order,
-- every degree above d balances, and d doesn't
abbrev pub Judged : List ℕ → ℕ → (room : List ℕ) → ℕ → Result (Unit {0}) Flaw → Type 0
Judged xs gap room n (Ok _) =
    Fit xs room n × Ordered (advised room n) × Feasible 1000 (supply_of (streams_in xs)) (demand_of gap (streams_in xs)) (plan_of (advised room n))
Judged xs gap room n (Err Unfit) = Fit xs room n → ⊥
Judged xs gap room n (Err (OutOfOrder i)) =
    Fit xs room n × (i < n) × InOrder (take i (advised room n)) × (InOrder (take (i + 1) (advised room n)) → ⊥)
Judged xs gap room n (Err (Unbalanced d)) =
    Fit xs room n × InOrder (advised room n) × (d < 1000) × ((k : ℕ) → d < k → k < 1000 → Balanced xs gap (advised room n) k)
    × (Balanced xs gap (advised room n) d → ⊥)

-- no plan that is in order and feasible is found wanting, and none that the planner promises
pub record Just (xs : List ℕ) (gap : ℕ) (room : List ℕ) (n : ℕ) (v : Result (Unit {0}) Flaw) : Type 0 where
  pub any_good : Fit xs room n → Ordered (advised room n) → Feasible 1000 (supply_of (streams_in xs)) (demand_of gap (streams_in xs)) (plan_of (advised room n)) → v ≡ Ok tt
  pub planned : (old : List ℕ) (heating : ℕ) → Promise xs gap old (Planned n heating) room → v ≡ Ok tt
