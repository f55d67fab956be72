-- How a printed transfer is read.
use Rattle.std.specs.Prelude.{◌≡◌, ℕ, ◌^◌, ◌<◌, Bool, cond, List, [], ◌∷◌, ◌++◌, length, take, drop, Some, None, codes, Option, MatchOption, true, false, nat_lt, if◌then◌else◌}
use Rattle.std.specs.Str.{bytes_eq}
use Rattle.lexing.specs.Lexing.{number_in}
use Rattle.lexing.specs.Steps.{◌>>=◌}
use Rattle.plans.specs.declared.transfers.Transfer.{Transfer}
use Rattle.plans.specs.Transfers.{outside}
use Rattle.printing.specs.Printed.{ended, transfer_line_bytes}

-- bs begins with this text
abbrev pub begins : List ℕ → List ℕ → Bool
begins text bs = bytes_eq text (take (length text) bs)

-- the same cut, with bs put before its first part
abbrev pub ahead : List ℕ → Option (List ℕ × List ℕ) → Option (List ℕ × List ℕ)
ahead bs None = None
ahead bs (Some p) = Some (bs ++ p.0, p.1)

-- what stands before the first such text, and what after it
unfoldable pub cut : List ℕ → List ℕ → Option (List ℕ × List ℕ)
cut text [] = None
cut text (b ∷ bs) = cond (begins text (b ∷ bs)) (Some ([], drop (length text) (b ∷ bs))) (ahead (b ∷ []) (cut text bs))

-- the first place of bs at which this text stands, or none
abbrev pub FirstAt : List ℕ → List ℕ → Option ℕ → Type 0
FirstAt text bs r =
    MatchOption r ((k : ℕ) → k < length bs → begins text (drop k bs) ≡ false)
    (λ i. (i < length bs) × (begins text (drop i bs) ≡ true) × ((k : ℕ) → k < i → begins text (drop k bs) ≡ false))

-- a degree, or the boiler or the river by its name
unfoldable pub place : List ℕ → List ℕ → Option ℕ
place name bs = cond (bytes_eq bs name) (Some outside) (number_in bs)

-- the transfer that the parts of a line tell
abbrev pub reads_parts : List ℕ → List ℕ → List ℕ → Option Transfer
reads_parts giver taker digits = do
  a ← place (codes "boiler") giver
  b ← place (codes "river") taker
  h ← number_in digits
  Some (record { from = a; to = b; heat = h })

-- what gives stands before `to`, what takes before a comma, and how much before the newline, which ends the line
abbrev pub reads_transfer : List ℕ → Option Transfer
reads_transfer bs = do
  p ← cut (codes " to ") bs
  q ← cut (codes ", ") p.1
  r ← cut ended q.1
  if nat_lt 0 (length r.1) then None else reads_parts p.0 q.0 r.0

-- each transfer that is printed is read as it was
abbrev pub ReadsBack : Type 0
ReadsBack = (t : Transfer) → t.from < 2 ^ 32 → t.to < 2 ^ 32 → t.heat < 2 ^ 32 → reads_transfer (transfer_line_bytes t.from t.to t.heat) ≡ Some t
