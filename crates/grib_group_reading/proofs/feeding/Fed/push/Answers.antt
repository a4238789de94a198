use Rattle.std.proofs.Common.{◌+◌, ◌++◌, ◌∙◌, arith}
use Rattle.grib_group_reading.specs.declared.feeding.Fed.{Fed}
use Rattle.grib_group_reading.specs.Going.{left_of}
use Rattle.grib_group_reading.specs.Table.{groups_in}
use Rattle.grib_group_reading.specs.Taking.{values}
use Rattle.grib_group_reading.proofs.Moves.{room_beside}
use Rattle.grib_group_reading.proofs.Pieces.{fed_done, fed_more}
use Rattle.grib_group_reading.proofs.feeding.Fed.push.Goals as goal

pub returns-clause-fed : goal.returns-clause-fed
returns-clause-fed g c = λ layout groups start octets fed.
    fed_more g.T.Taker.took g.met.T.Taker.none g.met.T.Taker.more layout groups start octets c.args.piece.now c.args.self c.push-taker.new.self c.push-taker.result fed c.push-taker.ensures.goes

pub push-taker-requires-clause-room : goal.push-taker-requires-clause-room
push-taker-requires-clause-room g c =
    let left = values (left_of c.args.self.numbers (groups_in c.args.self.table)) in
    g.met.T.Taker.fewer c.args.self.taker left (left + 0) (omega arith) c.requires.room

pub returns-clause-room : goal.returns-clause-room
returns-clause-room g c = λ n room. room_beside g.T.Taker.took g.T.Taker.room g.met.T.Taker.room_after c.push-taker.ensures.goes n room

pub returns-clause-caught_up : goal.returns-clause-caught_up
returns-clause-caught_up g c = record { waits = c.push-taker.ensures.waits }

pub returns-clause-took : goal.returns-clause-took
returns-clause-took g c = λ layout groups start octets fed enough.
    let after : Fed g.row.T.Denot = record { layout = c.args.self.layout; table = c.args.self.table; numbers = c.push-taker.new.self; taker = c.push-taker.result } in
    fed_done g.T.Taker.took g.met.T.Taker.none g.met.T.Taker.more layout groups start (octets ++ c.args.piece.now) after
    (fed_more g.T.Taker.took g.met.T.Taker.none g.met.T.Taker.more layout groups start octets c.args.piece.now c.args.self c.push-taker.new.self c.push-taker.result fed c.push-taker.ensures.goes) c.push-taker.ensures.waits enough

pub returns-clause-list : goal.returns-clause-list
returns-clause-list g c = λ width list. record { all = list.all; current = c.push-taker.ensures.width list.all ∙ list.current }
