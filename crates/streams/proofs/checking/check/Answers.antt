use Rattle.std.proofs.Common.{◌≡◌, length, ◌∙◌, arith, rules}
use Rattle.std.proofs.lemmas.Result.{err_from_is_err_and}
use Rattle.streams.proofs.Fours.{read_more, refuses, refusal_of_streams}
use Rattle.streams.proofs.checking.check.Goals as goal

pub loop-place-preserved : goal.loop-place-preserved
loop-place-preserved c =
    let read = c.in_ok-streams.ensures in
    read_more c.args.gap c.args.numbers.now _ _ c.loop-place.place _ (omega (arith, c.as_chunks.ensures.front_len)) (rw c.as_chunks.ensures.front at read) (omega arith) c.loop-place.invariant

pub returns-in_err-streams : goal.returns-in_err-streams
returns-in_err-streams c =
    let p = err_from_is_err_and c.from_residual.result c.from_residual.ensures.1 in
    let read = c.in_err-streams.ensures in
    let whole : length c.as_chunks.result.1.now ≡ 0 = search rules in
    rw (p.1, p.2)
    (refusal_of_streams c.args.numbers.now c.args.gap (omega arith) (omega arith) (omega arith)
    ∙ refuses c.args.gap c.args.numbers.now _ _ c.loop-place.place _ (omega (arith, c.as_chunks.ensures.front_len)) (rw c.as_chunks.ensures.front at read) c.loop-place.invariant)
