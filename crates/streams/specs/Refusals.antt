-- The number and the place of each refusal.
use Rattle.std.specs.Prelude.{ℕ}
use Rattle.streams.specs.declared.refusals.Refusal.{Refusal}
use Rattle.streams.specs.declared.refusals.Refusal.TheVariants.{NotInFours, TooManyStreams, GapTooWide, UnknownKind, LowNotBelowHigh, TooWarm, RateOutOfRange, RoomTooSmall, Unreadable}

-- the number by which callers know the rule
abbrev pub number_of : Refusal → ℕ
number_of (NotInFours n) = 1
number_of (TooManyStreams n) = 1
number_of GapTooWide = 2
number_of (UnknownKind i) = 2
number_of (LowNotBelowHigh i) = 2
number_of (TooWarm i) = 2
number_of (RateOutOfRange i) = 2
number_of (RoomTooSmall n) = 3
number_of (Unreadable i) = 4

-- how many numbers there are, which stream, or which line
abbrev pub place_of : Refusal → ℕ
place_of (NotInFours n) = n
place_of (TooManyStreams n) = n
place_of GapTooWide = 0
place_of (UnknownKind i) = i
place_of (LowNotBelowHigh i) = i
place_of (TooWarm i) = i
place_of (RateOutOfRange i) = i
place_of (RoomTooSmall n) = n
place_of (Unreadable i) = i
