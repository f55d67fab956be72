-- Transfers one at a time, up to the first that is out of order.
use Rattle.std.proofs.Common.{◌≡◌, ℕ, ◌+◌, ◌<◌, ◌≤◌, true, false, cond, List, [], ◌∷◌, length, get_or, drop, slice_index, Some, None, Option, sym, ap, ◌∙◌, add-one, drop-cons}
use Rattle.std.proofs.lemmas.List.{drop_all}
use Rattle.plans.specs.declared.transfers.Transfer.{Transfer}
use Rattle.judge.specs.Verdicts.{transfer_in}
use Rattle.judge.specs.Pieces.{transfers_of, follows, disorder}

abbrev pub transfer_at : List (List ℕ) → ℕ → Transfer
transfer_at threes i = let t = get_or threes i [] in transfer_in (slice_index t 0) (slice_index t 1) (slice_index t 2)

-- the rest of what a pass goes through, from place i on
abbrev pub rest : ℕ → List (List ℕ) → List Transfer
rest i threes = transfers_of (drop i threes)

one_more : (before : Option Transfer) (i : ℕ) (threes : List (List ℕ)) (t : Transfer) → i < length threes → t ≡ transfer_at threes i →
    disorder before i (rest i threes) ≡ cond (follows before t) (disorder (Some t) (i + 1) (rest (i + 1) threes)) (Some i)
unfolding disorder
one_more before i threes t l e =
    let d : drop i threes ≡ get_or threes i [] ∷ drop (i + 1) threes = rw add-one (drop-cons threes i [] l) in
    ap (disorder before i) (ap transfers_of d ∙ ap (λ u. u ∷ rest (i + 1) threes) (sym e))

pub goes_on : (before : Option Transfer) (i : ℕ) (threes : List (List ℕ)) (t : Transfer) → i < length threes → t ≡ transfer_at threes i → follows before t ≡ true →
    disorder before i (rest i threes) ≡ disorder (Some t) (i + 1) (rest (i + 1) threes)
goes_on before i threes t l e f = rw f at (one_more before i threes t l e)

pub stops : (before : Option Transfer) (i : ℕ) (threes : List (List ℕ)) (t : Transfer) → i < length threes → t ≡ transfer_at threes i → follows before t ≡ false →
    disorder before i (rest i threes) ≡ Some i
stops before i threes t l e f = rw f at (one_more before i threes t l e)

pub ends : (before : Option Transfer) (i : ℕ) (threes : List (List ℕ)) → length threes ≤ i → disorder before i (rest i threes) ≡ None
unfolding disorder
ends before i threes l = ap (λ xs. disorder before i (transfers_of xs)) (drop_all i threes l)
