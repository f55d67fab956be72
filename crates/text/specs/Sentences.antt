-- The sentence that says why a text is turned away.
use Rattle.std.specs.Prelude.{ℕ, ◌+◌, ◌-◌, ◌^◌, List, ◌++◌, codes, decimal, min}
use Rattle.streams.specs.declared.refusals.Refusal.{Refusal}
use Rattle.streams.specs.declared.refusals.Refusal.TheVariants as refusals
use Rattle.streams.specs.Refusals.{number_of, place_of}
use Rattle.grammar.specs.Sentences.{sentence}
use Rattle.grammar.specs.Shown.{shown}
use Rattle.text.specs.declared.turned.Turned.{Turned}
use Rattle.text.specs.declared.turned.Turned.TheVariants.{Unreadable, Refused, NoMemory}

-- what is said of a line that breaks a rule
abbrev pub rule_broken : Refusal → List ℕ
rule_broken (refusals.NotInFours n) = codes "can't be used"
rule_broken (refusals.TooManyStreams n) = codes "is one stream more than the 64 that are taken"
rule_broken refusals.GapTooWide = codes "has a gap above 1000, and 0 to 1000 is allowed"
rule_broken (refusals.UnknownKind i) = codes "can't be used"
rule_broken (refusals.LowNotBelowHigh i) = codes "runs the wrong way or has no width: a hot stream is written from its higher temperature down, a cold one from its lower one up"
rule_broken (refusals.TooWarm i) = codes "is too warm: the higher temperature and the gap may come to 1000 together at most"
rule_broken (refusals.RateOutOfRange i) = codes "has heat for each degree that isn't 1 to 1000000"
rule_broken (refusals.RoomTooSmall n) = codes "can't be used"
rule_broken (refusals.Unreadable i) = codes "can't be used"

-- the refusal's number and place, and the line at place i as an editor counts it, from 1
abbrev pub beginning : Refusal → ℕ → List ℕ
beginning e i = codes "turned away " ++ (decimal (number_of e) ++ (codes " at " ++ (decimal (place_of e) ++ (codes ": line " ++ decimal (min (i + 1) (2 ^ 64 - 1))))))

-- what is wrong with the line that it speaks of
abbrev pub said_of : Turned → List ℕ
said_of (Unreadable i f) = beginning (refusals.Unreadable i) i ++ (codes " " ++ sentence f)
said_of (Refused e i l) = beginning e i ++ (codes " ('" ++ (shown l.now ++ (codes "') " ++ rule_broken e)))
said_of NoMemory = codes "there is not enough memory for this text"
