use Rattle.std.proofs.Common.{◌≡◌, ◌≤◌, ◌/◌, ◌∙◌, rules, length, take, refl, ap}
use Rattle.std.specs.Simd.{first_chunks}
use Rattle.judge.specs.Pieces.{streams_of, transfers_of}
use Rattle.judge.proofs.Reading.{fours_read, threes_read}
use Rattle.judge.proofs.case.Case.of.Goals as goal

pub returns-clause-streams : goal.returns-clause-streams
returns-clause-streams c = ap streams_of c.as_chunks.ensures.front ∙ fours_read (length c.args.streams.now / 4) c.args.streams.now refl

pub returns-clause-plan : goal.returns-clause-plan
returns-clause-plan c =
    let l : c.args.transfers ≤ length c.args.room.now / 3 = search rules in
    let t : c.in_ok-plan.plan.now ≡ take c.args.transfers (first_chunks 3 (length c.args.room.now / 3) c.args.room.now) = search rules in
    ap transfers_of t ∙ threes_read c.args.transfers (length c.args.room.now / 3) c.args.room.now l refl
