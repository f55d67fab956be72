-- The words that a line may begin with.
use Rattle.std.specs.Prelude.{ℕ, cond, List, Some, None, codes, Option}
use Rattle.std.specs.Str.{bytes_eq}
use Rattle.streams.specs.declared.model.Kind.TheVariants.{Hot, Cold}
use Rattle.grammar.specs.declared.keywords.Keyword.{Keyword}
use Rattle.grammar.specs.declared.keywords.Keyword.TheVariants.{Stream, Gap, Plan}

unfoldable pub keyword_in : List ℕ → Option Keyword
keyword_in w =
    cond (bytes_eq w (codes "hot")) (Some (Stream Hot))
    (cond (bytes_eq w (codes "cold")) (Some (Stream Cold))
    (cond (bytes_eq w (codes "gap")) (Some Gap)
    (cond (bytes_eq w (codes "plan")) (Some Plan) None)))
