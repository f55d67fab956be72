-- What is promised of a plan in the room.
use Rattle.std.specs.Prelude.{◌≡◌, ℕ, ◌*◌, ◌≤◌, List, ◌++◌, length, drop, Some, None, Ok, Err, Result}
use Rattle.streams.specs.declared.refusals.Refusal.{Refusal}
use Rattle.streams.specs.Heat.{supply_of, demand_of}
use Rattle.streams.specs.Refusals.{number_of}
use Rattle.streams.specs.Rules.{streams_in, refusal_with_room}
use Rattle.targets.specs.Found.{FoundOf}
use Rattle.targets.specs.Plans.{Plan, Feasible, bought, wasted}
use Rattle.plans.specs.declared.entry.Done.{Done}
use Rattle.plans.specs.declared.entry.Done.TheVariants.{Planned, Refused}
use Rattle.plans.specs.declared.entry.Written.{Written}
use Rattle.plans.specs.declared.transfers.Transfer.{Transfer}
use Rattle.plans.specs.Transfers.{flat, plan_of, Ordered}

-- n transfers fit and stand at the front of the room, and what stands behind them is as it was; they are in order; the plan that they make is
-- feasible and buys so much
pub record LaidOut (supply demand : ℕ → ℕ) (heating n : ℕ) (room room₁ : List ℕ) : Type 0 where
  pub transfers : List Transfer
  pub count : n ≡ length transfers
  pub fits : 3 * n ≤ length room
  pub room_is : room₁ ≡ flat transfers ++ drop (3 * n) room
  pub ordered : Ordered transfers
  pub feasible : Feasible 1000 supply demand (plan_of transfers)
  pub buys : bought 1000 (plan_of transfers) ≡ heating

-- such a plan, and no feasible plan whatever buys less, or sends less to the river
pub record CheapestPlan (supply demand : ℕ → ℕ) (heating n : ℕ) (room room₁ : List ℕ) : Type 0 where
  pub laid_out : LaidOut supply demand heating n room room₁
  pub none_buys_less : (p : Plan) → Feasible 1000 supply demand p → heating ≤ bought 1000 p
  pub none_wastes_less : (p : Plan) → Feasible 1000 supply demand p → wasted 1000 (plan_of laid_out.transfers) ≤ wasted 1000 p

-- what is promised for each answer, by the named refusal and its place
abbrev pub Answers : List ℕ → ℕ → (room : List ℕ) → Result Written Refusal → (room₁ : List ℕ) → Type 0
Answers xs gap room (Ok w) room₁ =
    (refusal_with_room xs gap room ≡ None) × FoundOf gap (streams_in xs) w.targets
    × CheapestPlan (supply_of (streams_in xs)) (demand_of gap (streams_in xs)) w.targets.heating w.transfers room room₁
Answers xs gap room (Err e) room₁ = (refusal_with_room xs gap room ≡ Some e) × (room₁ ≡ room)

-- such an answer for callers that know refusals by their numbers
abbrev pub done_of : Result Written Refusal → Done
done_of (Ok w) = Planned w.transfers w.targets.heating
done_of (Err e) = Refused (number_of e)

-- the main promise: a cheapest plan for these streams and this gap, or the number of the first rule that applies, and nothing changed
abbrev pub Promise : List ℕ → ℕ → (room : List ℕ) → Done → (room₁ : List ℕ) → Type 0
Promise xs gap room (Planned n heating) room₁ =
    (refusal_with_room xs gap room ≡ None) × CheapestPlan (supply_of (streams_in xs)) (demand_of gap (streams_in xs)) heating n room room₁
Promise xs gap room (Refused number) room₁ = ((e : Refusal) × (refusal_with_room xs gap room ≡ Some e) × (number ≡ number_of e)) × (room₁ ≡ room)
