-- Reading in steps, each of which may find nothing.
use Rattle.std.specs.Prelude.{Option, option_and_then}

-- what is read first, and then what follows, as `?` goes on
infixl 10 ◌>>=◌
abbrev pub ◌>>=◌ : {X Y : Type 0} → Option X → (X → Option Y) → Option Y
o >>= f = option_and_then f o
