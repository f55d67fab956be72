-- What is printed for a text.
use Rattle.std.specs.Prelude.{◌≡◌, ℕ, ◌*◌, Bool, cond, List, [], ◌++◌, take, replicate, Some, Ok, Err, string_bytes, Result, String, slice_index_or}
use Rattle.std.specs.Option.{unwrap_or}
use Rattle.std.specs.declared.alloc.Global.{Global}
use Rattle.streams.specs.Rules.{refusal_with_room}
use Rattle.lexing.specs.Lexing.{lines, uncommented, trimmed}
use Rattle.plans.specs.declared.entry.Written.{Written}
use Rattle.plans.specs.Promise.{Answers}
use Rattle.printing.specs.Printed.{first_line_bytes, transfer_lines}
use Rattle.text.specs.declared.turned.Turned.{Turned}
use Rattle.text.specs.declared.turned.Turned.TheVariants.{Unreadable, Refused, NoMemory}
use Rattle.text.specs.Asked.{Asked, asked_in, line_of}

-- a room of noughts
abbrev pub empty_room : List ℕ
empty_room = replicate 6000 0

-- what is printed for a plan in the room: its targets, and its transfers if they are wished for
abbrev pub printed_bytes : Written → Bool → List ℕ → List ℕ
printed_bytes written wished room = first_line_bytes written.targets ++ cond wished (transfer_lines (take (3 * written.transfers) room)) []

-- what is asked is answered by the planner, whose targets are printed, and its transfers if they are wished for
pub record PrintedFor (text bytes : List ℕ) : Type 0 where
  pub asked : Asked
  pub asked_is : asked_in text ≡ Ok asked
  pub written : Written
  pub room : List ℕ
  pub answers : Answers asked.numbers (unwrap_or asked.gap 0) empty_room (Ok written) room
  pub bytes_are : bytes ≡ printed_bytes written asked.plan room

-- the line at a place as it is quoted: without its comment and the blanks at its end
abbrev pub quoted : List ℕ → ℕ → List ℕ
quoted text i = trimmed (uncommented (slice_index_or (lines text) i []))

-- and what is refused is refused by the first line that can't be read, or by the first rule that applies to what is asked, with the line that it speaks of
abbrev pub Answered : List ℕ → Result (String Global) Turned → Type 0
Answered text (Ok s) = PrintedFor text (string_bytes s)
Answered text (Err (Unreadable i f)) = asked_in text ≡ Err i
Answered text (Err (Refused e i l)) = (a : Asked) × (asked_in text ≡ Ok a) × (refusal_with_room a.numbers (unwrap_or a.gap 0) empty_room ≡ Some e) × (i ≡ line_of a e)
Answered text (Err NoMemory) = Unit {0}

-- a refusal by a rule carries the line at its place, as it is quoted
abbrev pub Quotes : List ℕ → Result (String Global) Turned → Type 0
Quotes text (Ok s) = Unit {0}
Quotes text (Err (Unreadable i f)) = Unit {0}
Quotes text (Err (Refused e i l)) = l.now ≡ quoted text i
Quotes text (Err NoMemory) = Unit {0}
