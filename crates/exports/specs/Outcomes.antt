-- The planner's answer as three numbers.
use Rattle.std.specs.Prelude.{◌≡◌, List, ℕ}
use Rattle.plans.specs.declared.entry.Done.{Done}
use Rattle.plans.specs.declared.entry.Done.TheVariants.{Planned, Refused}
use Rattle.plans.specs.Promise.{Promise}
use Rattle.exports.specs.declared.Outcome.{Outcome}

-- a plan has refusal 0; where the streams are turned away, nothing is planned or bought
abbrev pub outcome_of : Done → Outcome
outcome_of (Planned n bought) = record { refusal = 0; transfers = n; bought = bought }
outcome_of (Refused number) = record { refusal = number; transfers = 0; bought = 0 }

-- it says what some answer says that keeps the planner's main promise
abbrev pub Promised : List ℕ → ℕ → (room : List ℕ) → Outcome → (room₁ : List ℕ) → Type 0
Promised xs gap room o room₁ = (done : Done) × (o ≡ outcome_of done) × Promise xs gap room done room₁
