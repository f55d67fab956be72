-- What a text asks, line by line.
use Rattle.std.specs.Prelude.{◌≡◌, ℕ, ◌+◌, Bool, true, false, List, [], ◌∷◌, ◌++◌, Some, None, Ok, Err, vec_items, unwrap_or, option_map, Option, Result, slice_index}
use Rattle.std.specs.List.{flat_map}
use Rattle.streams.specs.Numbers.{numbers_of}
use Rattle.streams.specs.declared.refusals.Refusal.{Refusal}
use Rattle.streams.specs.declared.refusals.Refusal.TheVariants as refusals
use Rattle.lexing.specs.Lexing.{lines, words, uncommented}
use Rattle.lexing.specs.Steps.{◌>>=◌}
use Rattle.grammar.specs.declared.statements.Statement.{Statement}
use Rattle.grammar.specs.declared.statements.Statement.TheVariants as statements
use Rattle.grammar.specs.Statements.{statement}
use Rattle.text.specs.declared.problem.Problem.{Problem}
use Rattle.text.specs.declared.turned.Turned.{Turned}
use Rattle.text.specs.declared.turned.Turned.TheVariants.{Unreadable, Refused, NoMemory}

-- the streams in the order of their lines, as numbers in fours, and the places of those lines; the gap, if it was given, and the place of its line;
-- whether the plan is wished for
pub record Asked : Type 0 where
  pub numbers : List ℕ
  pub stream_lines : List ℕ
  pub gap : Option ℕ
  pub gap_line : ℕ
  pub plan : Bool

-- the gap and the plan may be asked for once
abbrev pub with_gap : ℕ → Asked → Option ℕ → ℕ → Option Asked
with_gap i a None g = Some (record { numbers = a.numbers; stream_lines = a.stream_lines; gap = Some g; gap_line = i; plan = a.plan })
with_gap i a (Some h) g = None

abbrev pub with_plan : Asked → Bool → Option Asked
with_plan a false = Some (record { numbers = a.numbers; stream_lines = a.stream_lines; gap = a.gap; gap_line = a.gap_line; plan = true })
with_plan a true = None

-- what is asked after the line at place i
abbrev pub after : ℕ → Asked → Option Statement → Option Asked
after i a None = Some a
after i a (Some (statements.Stream s)) =
    Some (record { numbers = a.numbers ++ numbers_of s; stream_lines = a.stream_lines ++ i ∷ []; gap = a.gap; gap_line = a.gap_line; plan = a.plan })
after i a (Some (statements.Gap g)) = with_gap i a a.gap g
after i a (Some statements.Plan) = with_plan a a.plan

-- the lines from place i on, or the place of the first that can't be read
abbrev pub go_on : Option Asked → ℕ → (Asked → Result Asked ℕ) → Result Asked ℕ
go_on None i f = Err i
go_on (Some a) i f = f a

unfoldable pub asked_from : Asked → ℕ → List (List ℕ) → Result Asked ℕ
asked_from a i [] = Ok a
asked_from a i (l ∷ ls) = go_on (statement (words (uncommented l)) >>= after i a) i (λ b. asked_from b (i + 1) ls)

-- nothing is asked at first
abbrev pub nothing_asked : Asked
nothing_asked = record { numbers = []; stream_lines = []; gap = None; gap_line = 0; plan = false }

-- what a text asks, or the place of the first line that can't be read
unfoldable pub asked_in : List ℕ → Result Asked ℕ
asked_in text = asked_from nothing_asked 0 (lines text)

-- the place of the line that a refusal speaks of
abbrev pub line_of : Asked → Refusal → ℕ
line_of a (refusals.NotInFours n) = slice_index a.stream_lines n
line_of a (refusals.TooManyStreams n) = slice_index a.stream_lines 64
line_of a refusals.GapTooWide = a.gap_line
line_of a (refusals.UnknownKind i) = slice_index a.stream_lines i
line_of a (refusals.LowNotBelowHigh i) = slice_index a.stream_lines i
line_of a (refusals.TooWarm i) = slice_index a.stream_lines i
line_of a (refusals.RateOutOfRange i) = slice_index a.stream_lines i
line_of a (refusals.RoomTooSmall n) = slice_index a.stream_lines n
line_of a (refusals.Unreadable i) = slice_index a.stream_lines i

-- what the code has read
abbrev pub asked_by : Problem → Asked
asked_by p = record {
  numbers = flat_map (λ stream. stream) (vec_items p.streams);
  stream_lines = vec_items p.places;
  gap = option_map (λ line. line.what) p.gap;
  gap_line = unwrap_or (option_map (λ line. line.place) p.gap) 0;
  plan = p.plan;
}

-- a line is noted, or refused at its place, or there is no memory
abbrev pub Noted : Problem → Option Statement → ℕ → Result (Unit {0}) Turned → Problem → Type 0
Noted p said place (Ok _) q = after place (asked_by p) said ≡ Some (asked_by q)
Noted p said place (Err (Unreadable i f)) q = (after place (asked_by p) said ≡ None) × (i ≡ place)
Noted p said place (Err (Refused e i l)) q = ⊥
Noted p said place (Err NoMemory) q = Unit {0}

abbrev pub Read : List ℕ → Result Problem Turned → Type 0
Read text (Ok p) = asked_in text ≡ Ok (asked_by p)
Read text (Err (Unreadable i f)) = asked_in text ≡ Err i
Read text (Err (Refused e i l)) = ⊥
Read text (Err NoMemory) = Unit {0}
