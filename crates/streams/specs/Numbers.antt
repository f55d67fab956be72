-- Kinds and streams as numbers.
use Rattle.std.specs.Prelude.{◌≡◌, ℕ, ◌<◌, List, [], ◌∷◌, Result, MatchResult}
use Rattle.streams.specs.declared.model.Kind.{Kind}
use Rattle.streams.specs.declared.model.Kind.TheVariants.{Hot, Cold}
use Rattle.streams.specs.declared.model.Stream.{Stream}
use Rattle.streams.specs.declared.model.UnknownMark.{UnknownMark}

-- the mark of a kind
abbrev pub mark_of : Kind → ℕ
mark_of Hot = 1
mark_of Cold = 0

-- a mark's kind, or a mark that no kind has
abbrev pub Marks : ℕ → Result Kind UnknownMark → Type 0
Marks mark r = MatchResult r (λ kind. mark_of kind ≡ mark) (λ unknown. (unknown.0 ≡ mark) × (1 < mark))

-- a stream's four numbers
abbrev pub numbers_of : Stream → List ℕ
numbers_of s = mark_of s.kind ∷ s.low ∷ s.high ∷ s.rate ∷ []
