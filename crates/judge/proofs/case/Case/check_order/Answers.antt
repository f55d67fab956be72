use Rattle.std.proofs.Common.{sym, ◌∙◌}
use Rattle.judge.specs.Pieces.{transfers_of}
use Rattle.judge.proofs.Passing.{goes_on, stops, ends}
use Rattle.judge.proofs.Sorting.{none_out, some_out}
use Rattle.judge.proofs.case.Case.check_order.Goals as goal

pub returns-then-not-may_follow : goal.returns-then-not-may_follow
returns-then-not-may_follow c =
    let s = stops c.loop-place.before c.loop-place.place c.args.self.now.plan.now _ c.loop-place-test.true c.transfer_of-t.ensures (sym c.may_follow.ensures ∙ c.if-not-may_follow.true) in
    some_out (transfers_of c.args.self.now.plan.now) c.loop-place.place (sym c.loop-place.invariant ∙ s)

pub loop-place-preserved : goal.loop-place-preserved
loop-place-preserved c =
    let g = goes_on c.loop-place.before c.loop-place.place c.args.self.now.plan.now _ c.loop-place-test.true c.transfer_of-t.ensures (sym c.may_follow.ensures ∙ c.if-not-may_follow.false) in
    sym g ∙ c.loop-place.invariant

pub returns : goal.returns
returns c = none_out (transfers_of c.args.self.now.plan.now) (sym c.loop-place.invariant ∙ ends c.loop-place.before c.loop-place.place c.args.self.now.plan.now c.loop-place-test.false)
