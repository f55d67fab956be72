-- Pieces of the judge's work; inner notions, which no public promise cites.
use Rattle.std.specs.Prelude.{◌≡◌, ℕ, ◌+◌, ◌<◌, Bool, true, cond, not, ◌&&◌, ◌||◌, List, [], ◌∷◌, length, take, map, slice_index, Some, None, Option, Ok, Err, Result, ◌==◌, nat_lt}
use Rattle.streams.specs.declared.model.Stream.{Stream}
use Rattle.streams.specs.Heat.{within, supply_of, demand_of}
use Rattle.streams.specs.Rules.{stream_in}
use Rattle.plans.specs.declared.transfers.Transfer.{Transfer}
use Rattle.plans.specs.Transfers.{outside, sent, got}
use Rattle.judge.specs.declared.flaws.Flaw.{Flaw}
use Rattle.judge.specs.declared.flaws.Flaw.TheVariants.{Unfit, OutOfOrder, Unbalanced}
use Rattle.judge.specs.Verdicts.{transfer_in, InOrder}

-- streams, each of four numbers
abbrev pub streams_of : List (List ℕ) → List Stream
streams_of fours = map (λ s. stream_in (slice_index s 0) (slice_index s 1) (slice_index s 2) (slice_index s 3)) fours

-- transfers, each of three
abbrev pub transfers_of : List (List ℕ) → List Transfer
transfers_of threes = map (λ t. transfer_in (slice_index t 0) (slice_index t 1) (slice_index t 2)) threes

-- the heat of such a stream in degree d, counted as warmer by shift
abbrev pub heat_in : ℕ → ℕ → List ℕ → ℕ
heat_in shift d s = cond (within (slice_index s 1 + shift) (slice_index s 2 + shift) d) (slice_index s 3) 0

-- a degree, or outside
abbrev pub placed : ℕ → Bool
placed a = nat_lt a 1000 || a == outside

-- something goes from a place to a place, and not from the boiler to the river
abbrev pub fair : Transfer → Bool
fair t = nat_lt 0 t.heat && (placed t.from && (placed t.to && not (t.from == outside && t.to == outside)))

-- it goes to a warmer degree
abbrev pub rising : Transfer → Bool
rising t = nat_lt t.to 1000 && nat_lt t.from t.to

-- it stands behind the one before it
abbrev pub behind : (before t : Transfer) → Bool
behind before t = nat_lt t.to before.to || (t.to == before.to && nat_lt t.from before.from)

-- and so does it where none is before it
abbrev pub behind_any : Option Transfer → Transfer → Bool
behind_any None t = true
behind_any (Some before) t = behind before t

-- it may follow the one before it
abbrev pub follows : Option Transfer → Transfer → Bool
follows before t = fair t && (not (rising t) && behind_any before t)

-- the first that doesn't follow the one before it, where i were there already
unfoldable pub disorder : Option Transfer → ℕ → List Transfer → Option ℕ
disorder before i [] = None
disorder before i (t ∷ ts) = cond (follows before t) (disorder (Some t) (i + 1) ts) (Some i)

-- all are in order; or the transfers before i are in order, and with i they aren't
abbrev pub OrderJudged : List Transfer → Result (Unit {0}) Flaw → Type 0
OrderJudged ts (Ok _) = InOrder ts
OrderJudged ts (Err Unfit) = ⊥
OrderJudged ts (Err (OutOfOrder i)) = (i < length ts) × InOrder (take i ts) × (InOrder (take (i + 1) ts) → ⊥)
OrderJudged ts (Err (Unbalanced d)) = ⊥

-- degree d gives all that it has and gets all that it wants
pub record BalancedFor (ss : List Stream) (gap : ℕ) (ts : List Transfer) (d : ℕ) : Type 0 where
  pub gives : sent ts d ≡ supply_of ss d
  pub gets : got ts d ≡ demand_of gap ss d

-- all degrees balance; or every degree above d does, and d doesn't
abbrev pub BalanceJudged : List Stream → ℕ → List Transfer → Result (Unit {0}) Flaw → Type 0
BalanceJudged ss gap ts (Ok _) = (k : ℕ) → k < 1000 → BalancedFor ss gap ts k
BalanceJudged ss gap ts (Err Unfit) = ⊥
BalanceJudged ss gap ts (Err (OutOfOrder i)) = ⊥
BalanceJudged ss gap ts (Err (Unbalanced d)) = (d < 1000) × ((k : ℕ) → d < k → k < 1000 → BalancedFor ss gap ts k) × (BalancedFor ss gap ts d → ⊥)
