use Rattle.std.proofs.Common.{sym, arith}
use Rattle.std.proofs.Output.{has_written_of_eq}
use Rattle.grammar.proofs.Showing.{hex_shown}
use Rattle.grammar.proofs.shown.ShownByteDisplay.fmt.Goals as goal

pub returns-else-is_printable-clause-writes : goal.returns-else-is_printable-clause-writes
returns-else-is_printable-clause-writes g c =
    let w = rw (c.in_radix.ensures, c.laid_out.ensures) at c.write-else-is_printable.ensures.writes in
    λ p o. has_written_of_eq _ _ _ _ _ (hex_shown c.args.self.now.0 (omega arith) (sym c.if-is_printable.ensures)) (w p o)
