use Rattle.std.proofs.Common.{◌+◌, length, take, Some, sym, ap, ◌∙◌}
use Rattle.std.proofs.lemmas.List.{take_rest}
use Rattle.printing.proofs.Cuts.{cut_first}
use Rattle.printing.proofs.reader.split_once.Goals as goal

pub returns : goal.returns
returns c =
    let e = c.in_ok-start.ensures in
    let i = c.in_ok-start.start in
    cut_first c.args.text.now c.args.bytes.now i e.0 e.1 e.2
    ∙ ap (λ zs. Some (take i c.args.bytes.now, zs)) (sym (take_rest c.args.bytes.now (i + length c.args.text.now)))
