use Rattle.std.proofs.Common.{◌*◌, refl, arith}
use Rattle.plans.specs.Transfers.{words}
use Rattle.plans.proofs.Room.{added_none, lent, length_splice}
use Rattle.plans.proofs.Rows.{some_none, some_one}
use Rattle.plans.proofs.transfers.Writer.add.Goals as goal

pub returns-then-t-eq0 : goal.returns-then-t-eq0
returns-then-t-eq0 c = rw (some_none c.args.t c.if-t-eq0.true) (added_none c.args.self.now (omega arith))

pub returns : goal.returns
returns c =
    let k = 3 * c.args.self.now.count in
    let room_is = lent k c.args.self.now.room.now (words c.args.t) _ (omega arith) c.put.ensures in
    rw (some_one c.args.t c.if-t-eq0.false) (record {
      same_room = refl;
      size = rw room_is (length_splice k (words c.args.t) _ (omega arith));
      begun = omega arith;
      count = refl;
      room_is = room_is;
    })
