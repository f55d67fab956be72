-- From what the planner answers to what is printed.
use Rattle.std.proofs.Common.{◌≡◌, ℕ, List, Some, Ok, unwrap_or}
use Rattle.streams.specs.declared.refusals.Refusal.{Refusal}
use Rattle.streams.specs.Rules.{refusal_with_room}
use Rattle.plans.specs.declared.entry.Written.{Written}
use Rattle.plans.specs.Promise.{Answers}
use Rattle.text.specs.Asked.{Asked, asked_in, line_of}
use Rattle.text.specs.Answered.{empty_room, printed_bytes, PrintedFor}

module _ (text : List ℕ) (a : Asked) (xs : List ℕ) (gap : ℕ) (asked_is : asked_in text ≡ Ok a) (xs_are : xs ≡ a.numbers) (gap_is : gap ≡ unwrap_or a.gap 0) where
  pub printed_for : (w : Written) (room bytes : List ℕ) → Answers xs gap empty_room (Ok w) room → bytes ≡ printed_bytes w a.plan room → PrintedFor text bytes
  printed_for w room bytes h b = record { asked = a; asked_is = asked_is; written = w; room = room; answers = rw (xs_are, gap_is) at h; bytes_are = b }

  pub refused_for : (e : Refusal) (i : ℕ) → refusal_with_room xs gap empty_room ≡ Some e → i ≡ line_of a e →
      (b : Asked) × (asked_in text ≡ Ok b) × (refusal_with_room b.numbers (unwrap_or b.gap 0) empty_room ≡ Some e) × (i ≡ line_of b e)
  refused_for e i r l = (a, asked_is, rw (xs_are, gap_is) at r, l)
