use Rattle.std.proofs.Common.{◌+◌, arith}
use Rattle.grib_group_reading.specs.Going.{left_of}
use Rattle.grib_group_reading.specs.Table.{groups_in}
use Rattle.grib_group_reading.specs.Taking.{values}
use Rattle.grib_group_reading.proofs.Moves.{room_beside}
use Rattle.grib_group_reading.proofs.Pieces.{fed_whole}
use Rattle.grib_group_reading.proofs.feeding.Fed.finish.Goals as goal

pub returns-clause-took : goal.returns-clause-took
returns-clause-took g c = λ layout groups start octets fed enough.
    fed_whole g.T.Taker.took g.met.T.Taker.none g.met.T.Taker.more layout groups start octets c.args.self c.push.new.self c.push.result fed c.push.ensures.goes c.push.ensures.waits enough

pub push-requires-clause-room : goal.push-requires-clause-room
push-requires-clause-room g c =
    let left = values (left_of c.args.self.numbers (groups_in c.args.self.table)) in
    g.met.T.Taker.fewer c.args.self.taker left (left + 0) (omega arith) c.requires.room

pub returns-clause-room : goal.returns-clause-room
returns-clause-room g c = λ n room.
    let after = room_beside g.T.Taker.took g.T.Taker.room g.met.T.Taker.room_after c.push.ensures.goes n room in
    g.met.T.Taker.fewer c.push.result n (values (left_of c.push.new.self (groups_in c.args.self.table)) + n) (omega arith) after
