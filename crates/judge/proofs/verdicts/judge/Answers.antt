use Rattle.std.proofs.Common.{rules}
use Rattle.std.proofs.lemmas.Result.{err_from_is_err_and}
use Rattle.judge.specs.Verdicts.{Judged}
use Rattle.judge.proofs.Agreeing.{just}
use Rattle.judge.proofs.Judging.{not_in_order, in_order}
use Rattle.judge.proofs.verdicts.judge.Goals as goal

pub returns-in_err-case-clause-just : goal.returns-in_err-case-clause-just
returns-in_err-case-clause-just c =
    let j : Judged c.args.streams.now c.args.gap c.args.room.now c.args.transfers c.from_residual.result = search rules in
    just _ _ _ _ _ j

pub returns-in_err-check_order : goal.returns-in_err-check_order
returns-in_err-check_order c =
    let p = err_from_is_err_and c.from_residual-in_err-check_order.result c.from_residual-in_err-check_order.ensures.1 in
    let of = c.in_ok-case.ensures in
    let j = not_in_order c.args.streams.now c.args.gap c.args.room.now c.args.transfers _ _ of.fit of.plan c.in_err-check_order.ensures in
    rw (p.1, p.2) (record { judged = j; just = just _ _ _ _ _ j })

pub returns : goal.returns
returns c =
    let of = c.in_ok-case.ensures in
    let j = in_order c.args.streams.now c.args.gap c.args.room.now c.args.transfers _ _ _ _ of.fit of.streams of.gap of.plan c.in_ok-check_order.ensures c.check_balance.ensures in
    record { judged = j; just = just _ _ _ _ _ j }
