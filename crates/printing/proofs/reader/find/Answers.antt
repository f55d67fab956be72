use Rattle.std.proofs.Common.{◌≡◌, ℕ, Bool, true, false, drop, rules, tests}
use Rattle.std.proofs.lemmas.Iterator.{first_from_Range}
use Rattle.std.proofs.lemmas.List.{take_rest}
use Rattle.printing.specs.ReadBack.{begins}
use Rattle.printing.proofs.Cuts.{found_first}
use Rattle.printing.proofs.reader.find.Goals as goal

pub returns : goal.returns
returns c =
    let stands : ℕ → Bool = λ i. begins c.args.text.now (drop i c.args.bytes.now) in
    found_first c.args.text.now c.args.bytes.now _ (first_from_Range _ _ _ _ (λ i. stands i ≡ true) (λ i. stands i ≡ false) c.find.ensures.ran (λ x q k. search (rules, tests, take_rest)) (λ x q k. search (rules, tests, take_rest)))
