use Rattle.text.specs.Asked.{asked_by}
use Rattle.text.proofs.Printing.{printed_for, refused_for}
use Rattle.text.proofs.answering.answer.Goals as goal

pub returns-in-Ok-clause-answered : goal.returns-in-Ok-clause-answered
returns-in-Ok-clause-answered c =
    printed_for c.args.text.now (asked_by c.in_ok-problem.problem) _ _ c.in_ok-problem.ensures c.numbers.ensures c.gap.ensures
    c.in-Ok.written c.write_plan.new.room _ c.in-Ok.ensures c.in_ok-printed-in-Ok.ensures

pub returns-clause-answered : goal.returns-clause-answered
returns-clause-answered c =
    refused_for c.args.text.now (asked_by c.in_ok-problem.problem) _ _ c.in_ok-problem.ensures c.numbers.ensures c.gap.ensures
    c.in-Err.refusal _ c.in-Err.ensures.0 c.place_of-place.ensures
