use Rattle.std.proofs.Common.{arith, eqb-true}
use Rattle.std.proofs.lemmas.Bool.{eq-eqb}
use Rattle.judge.proofs.Adding.{given, wanted, all_sent, all_got}
use Rattle.judge.proofs.case.Case.balances.Goals as goal

pub returns-then-sent_at-from : goal.returns-then-sent_at-from
returns-then-sent_at-from c =
    let s = all_sent c.args.self.now.plan.now c.args.degree in
    let g = given c.args.self.now.streams.now c.args.degree in
    let t = all_got c.args.self.now.plan.now c.args.degree in
    let w = wanted c.args.self.now.streams.now c.args.self.now.gap c.args.degree in
    (λ e. record { gives = omega arith; gets = omega (arith, eqb-true _ _ e) }, λ b. eq-eqb _ _ (omega (arith, b.gets)))

pub returns-else-sent_at-from : goal.returns-else-sent_at-from
returns-else-sent_at-from c =
    let s = all_sent c.args.self.now.plan.now c.args.degree in
    let g = given c.args.self.now.streams.now c.args.degree in
    (λ e. absurd (c.if-sent_at-from.false (eqb-true _ _ e)), λ b. absurd (omega (arith, b.gives)))
