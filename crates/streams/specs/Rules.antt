-- Streams in numbers, and the rules by which they are refused, in their order.
use Rattle.std.specs.Prelude.{ℕ, ◌+◌, ◌%◌, ◌<◌, ◌≤◌, Bool, true, false, cond, not, ◌||◌, List, [], ◌∷◌, length, Some, None, Ok, Err, Option, Result, ◌==◌, nat_le, nat_lt, slice_index}
use Rattle.streams.specs.declared.model.Kind.TheVariants.{Hot, Cold}
use Rattle.streams.specs.declared.model.Stream.{Stream}
use Rattle.streams.specs.declared.refusals.Refusal.{Refusal}
use Rattle.streams.specs.declared.refusals.Refusal.TheVariants.{NotInFours, TooManyStreams, GapTooWide, UnknownKind, LowNotBelowHigh, TooWarm, RateOutOfRange, RoomTooSmall}

-- four numbers are a stream: 1 for hot or 0 for cold, low, high, heat for each degree
abbrev pub stream_in : ℕ → ℕ → ℕ → ℕ → Stream
stream_in mark low high rate = record { kind = cond (mark == 1) Hot Cold; low = low; high = high; rate = rate }

abbrev pub streams_in : List ℕ → List Stream
streams_in [] = []
streams_in (a ∷ []) = []
streams_in (a ∷ (b ∷ [])) = []
streams_in (a ∷ (b ∷ (c ∷ []))) = []
streams_in (a ∷ (b ∷ (c ∷ (d ∷ xs)))) = stream_in a b c d ∷ streams_in xs

-- a rule that refuses if the test holds
abbrev pub when : Bool → Refusal → Option Refusal
when true e = Some e
when false e = None

-- the first rule that applies
abbrev pub first : List (Option Refusal) → Option Refusal
first [] = None
first (Some e ∷ rules) = Some e
first (None ∷ rules) = first rules

-- the first rule that the stream at place i breaks
abbrev pub stream_refusal : ℕ → ℕ → ℕ → ℕ → ℕ → ℕ → Option Refusal
stream_refusal gap i mark low high rate =
    first
    (when (nat_lt 1 mark) (UnknownKind i)
    ∷ when (nat_le high low) (LowNotBelowHigh i)
    ∷ when (nat_lt 1000 (high + gap)) (TooWarm i)
    ∷ when (nat_lt rate 1 || nat_lt 1000000 rate) (RateOutOfRange i)
    ∷ [])

-- the first of the streams from place i on that breaks one
abbrev pub unsound : ℕ → ℕ → List ℕ → Option Refusal
unsound gap i [] = None
unsound gap i (a ∷ []) = None
unsound gap i (a ∷ (b ∷ [])) = None
unsound gap i (a ∷ (b ∷ (c ∷ []))) = None
unsound gap i (a ∷ (b ∷ (c ∷ (d ∷ xs)))) = first (stream_refusal gap i a b c d ∷ unsound gap (i + 1) xs ∷ [])

-- the first rule that applies to streams in numbers and a gap
abbrev pub refusal : List ℕ → ℕ → Option Refusal
refusal xs gap =
    first
    (when (not (length xs % 4 == 0)) (NotInFours (length xs))
    ∷ when (nat_lt 256 (length xs)) (TooManyStreams (length xs))
    ∷ when (nat_lt 1000 gap) GapTooWide
    ∷ unsound gap 0 xs
    ∷ [])

-- and to a room besides
abbrev pub refusal_with_room : List ℕ → ℕ → (room : List ℕ) → Option Refusal
refusal_with_room xs gap room = first (refusal xs gap ∷ when (nat_lt (length room) 6000) (RoomTooSmall (length room)) ∷ [])

-- a stream that keeps the rules
abbrev pub Sound : ℕ → Stream → Type 0
Sound gap s = (s.low < s.high) × (s.high + gap ≤ 1000) × (1 ≤ s.rate) × (s.rate ≤ 1000000)

-- no stream
abbrev pub blank : Stream
blank = record { kind = Hot; low = 0; high = 0; rate = 0 }

-- a stream, or the rule that it breaks
abbrev pub unless : Option Refusal → Stream → Result Stream Refusal
unless None s = Ok s
unless (Some e) s = Err e

abbrev pub stream_or_refusal : ℕ → ℕ → List ℕ → Result Stream Refusal
stream_or_refusal gap i four =
    let mark = slice_index four 0 in
    let low = slice_index four 1 in
    let high = slice_index four 2 in
    let rate = slice_index four 3 in
    unless (stream_refusal gap i mark low high rate) (stream_in mark low high rate)
