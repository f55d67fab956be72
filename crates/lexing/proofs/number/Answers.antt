use Rattle.std.proofs.Common.{◌≡◌, length, sym, ◌∙◌, rules, tests}
use Rattle.std.proofs.lemmas.Bool.{eqb-true, eqb-false}
use Rattle.std.proofs.lemmas.Iterator.{YieldsList-from_slice}
use Rattle.lexing.specs.Lexing.{with_digit}
use Rattle.lexing.proofs.Folding.{folded_by}
use Rattle.lexing.proofs.Reading.{number_none, read_word}
use Rattle.lexing.proofs.number.Goals as goal

pub returns-then-is_empty : goal.returns-then-is_empty
returns-then-is_empty c = sym (number_none c.args.word.now (eqb-true _ _ (sym c.if-is_empty.ensures)))

pub returns : goal.returns
returns c =
    let n : length c.args.word.now ≡ 0 → ⊥ = eqb-false _ _ (sym c.if-is_empty.ensures) in
    folded_by _ with_digit _ (λ n x r q k. search (rules, tests)) _ c.args.word.now (YieldsList-from_slice c.args.word.now cc) _ _ c.try_fold.ensures.ran ∙ read_word c.args.word.now n
