-- What the words of a line say; a line that can't be read says None.
use Rattle.std.specs.Prelude.{◌≡◌, ℕ, List, [], ◌∷◌, Some, None, Option, Result, MatchResult}
use Rattle.streams.specs.declared.model.Kind.{Kind}
use Rattle.streams.specs.declared.model.Kind.TheVariants.{Hot, Cold}
use Rattle.streams.specs.declared.model.Stream.{Stream}
use Rattle.lexing.specs.Lexing.{number_in}
use Rattle.lexing.specs.Steps.{◌>>=◌}
use Rattle.grammar.specs.declared.keywords.Keyword.{Keyword}
use Rattle.grammar.specs.declared.keywords.Keyword.TheVariants as keywords
use Rattle.grammar.specs.declared.statements.LineFault.{LineFault}
use Rattle.grammar.specs.declared.statements.Statement.{Statement}
use Rattle.grammar.specs.declared.statements.Statement.TheVariants as statements
use Rattle.grammar.specs.Keywords.{keyword_in}

abbrev pub Words : Type 0
Words = List (List ℕ)

-- a number, and the words behind it
abbrev pub number_and_rest : Words → Option (ℕ × Words)
number_and_rest [] = None
number_and_rest (w ∷ ws) = do
  n ← number_in w
  Some (n, ws)

-- nothing more
abbrev pub done : Words → Option (Unit {0})
done [] = Some tt
done (w ∷ ws) = None

-- a hot stream is written from its higher temperature, a cold one from its lower
abbrev pub stream_of : Kind → (from to rate : ℕ) → Stream
stream_of Hot from to rate = record { kind = Hot; low = to; high = from; rate = rate }
stream_of Cold from to rate = record { kind = Cold; low = from; high = to; rate = rate }

-- three numbers are a stream, one is the gap
unfoldable pub stream_said : Kind → Words → Option Stream
stream_said k ws = do
  a ← number_and_rest ws
  b ← number_and_rest a.1
  c ← number_and_rest b.1
  _ ← done c.1
  Some (stream_of k a.0 b.0 c.0)

unfoldable pub gap_said : Words → Option ℕ
gap_said ws = do
  a ← number_and_rest ws
  _ ← done a.1
  Some a.0

-- what the words behind a keyword say
unfoldable pub said : Keyword → Words → Option Statement
said (keywords.Stream k) ws = do
  s ← stream_said k ws
  Some (statements.Stream s)
said keywords.Gap ws = do
  g ← gap_said ws
  Some (statements.Gap g)
said keywords.Plan ws = do
  _ ← done ws
  Some statements.Plan

-- a line without words says nothing
unfoldable pub statement : Words → Option (Option Statement)
statement [] = Some None
statement (w ∷ ws) = do
  k ← keyword_in w
  s ← said k ws
  Some (Some s)

-- what is read is what is said, and a fault is found where nothing is
abbrev pub Reads : {X : Type 0} → Option X → Result X LineFault → Type 0
Reads what r = MatchResult r (λ x. what ≡ Some x) (λ _. what ≡ None)
