use Rattle.std.proofs.Common.{◌^◌, rules, arith}
use Rattle.std.proofs.lemmas.Iterator.{YieldsList-from_slice}
use Rattle.std.proofs.lemmas.Iterator.Adapters.{fits_from_length, at_most_from_yields_List, at_most_from_Filter}
use Rattle.judge.proofs.case.Case.sent_at.Goals as goal

-- as many as a slice can hold, each of less than 2 ^ 32
pub sum-requires-clause-fits : goal.sum-requires-clause-fits
sum-requires-clause-fits c =
    fits_from_length _ _ (2 ^ 64) (2 ^ 128) (at_most_from_Filter _ (at_most_from_yields_List (YieldsList-from_slice c.args.self.now.plan.now cc) c.args.self.now.addressed))
    c.map.ensures.closure (omega arith) (λ x r q k. search rules)
