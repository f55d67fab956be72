use Rattle.std.proofs.Common.{arith, rules}
use Rattle.std.proofs.Output.{has_written_of_eq, has_written_append}
use Rattle.grammar.proofs.Showing.{shown_long, shown_short}
use Rattle.grammar.proofs.shown.ShownDisplay.fmt.Goals as goal

pub returns-in_ok-write_str-clause-writes : goal.returns-in_ok-write_str-clause-writes
returns-in_ok-write_str-clause-writes g c = λ p o.
    has_written_of_eq _ _ _ _ _ (shown_long c.args.self.now.0.now _ _ c.min.ensures (omega arith) (omega arith)) (has_written_append _ _ _ _ _ _ (c.loop-b.invariant p) (search rules))

pub returns-else-self-gt-MOST_SHOWN-clause-writes : goal.returns-else-self-gt-MOST_SHOWN-clause-writes
returns-else-self-gt-MOST_SHOWN-clause-writes g c = λ p o. has_written_of_eq _ _ _ _ _ (shown_short c.args.self.now.0.now _ _ c.min.ensures (omega arith) (omega arith)) (c.loop-b.invariant p)
