use Rattle.std.proofs.Common.{unwrap_or, ap, ◌∙◌, [], List, ℕ, ◌≡◌, Bor, Some, None, Option, option_map}
use Rattle.std.proofs.lemmas.Option.{unwrap_or-slice_get}
use Rattle.std.proofs.lemmas.Iterator.Consumers.{nth_from_yields_List, YieldsList-from_first}
use Rattle.lexing.specs.Lexing.{lines, lines_to_come}
use Rattle.text.proofs.answering.line_at.Goals as goal

-- what is read of a value or of another one
read_or : (o : Option (Bor (List ℕ))) (d r : Bor (List ℕ)) → r ≡ unwrap_or o d → r.now ≡ unwrap_or (option_map (λ x. x.now) o) d.now
read_or None d r e = ap (λ (x : Bor (List ℕ)). x.now) e
read_or (Some x) d r e = ap (λ (y : Bor (List ℕ)). y.now) e

pub returns : goal.returns
returns c =
    read_or c.nth.result _ c.unwrap_or.result c.unwrap_or.ensures
    ∙ ap (λ (o : Option (List ℕ)). unwrap_or o []) (nth_from_yields_List c.nth.result _ c.args.place c.nth.ensures.ran (YieldsList-from_first (λ x. x.now) lines_to_come (lines c.args.text.now) c.lines_of.ensures.all))
    ∙ unwrap_or-slice_get (lines c.args.text.now) c.args.place []
