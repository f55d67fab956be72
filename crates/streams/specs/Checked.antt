-- What the check answers.
use Rattle.std.specs.Prelude.{◌≡◌, ℕ, List, take, Some, None, Ok, Err, Option, Result}
use Rattle.streams.specs.declared.model.Stream.{Stream}
use Rattle.streams.specs.declared.refusals.Refusal.{Refusal}
use Rattle.streams.specs.declared.table.StreamTable.{StreamTable}
use Rattle.streams.specs.Rules.{streams_in, refusal, refusal_with_room}

-- the streams of a table, in their order
abbrev pub listed : StreamTable → List Stream
listed t = take t.count t.streams

-- by one rule: a refusal is the first that applies, and a table has all streams of the numbers, with their gap
abbrev pub Answers : Option Refusal → List ℕ → ℕ → Result StreamTable Refusal → Type 0
Answers rule xs gap (Ok t) = (rule ≡ None) × (listed t ≡ streams_in xs) × (t.gap ≡ gap)
Answers rule xs gap (Err e) = rule ≡ Some e

abbrev pub Checked : List ℕ → ℕ → Result StreamTable Refusal → Type 0
Checked xs gap r = Answers (refusal xs gap) xs gap r

abbrev pub CheckedWithRoom : List ℕ → ℕ → (room : List ℕ) → Result StreamTable Refusal → Type 0
CheckedWithRoom xs gap room r = Answers (refusal_with_room xs gap room) xs gap r
