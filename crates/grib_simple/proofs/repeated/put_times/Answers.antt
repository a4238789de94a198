use Rattle.std.proofs.Common.{replicate}
use Rattle.grib_packing.specs.Packed.{fields}
use Rattle.grib_simple.proofs.PointByPoint.{number_more, number_room}
use Rattle.grib_simple.proofs.Times.{next_time}
use Rattle.grib_simple.proofs.repeated.put_times.Goals as goal

pub put-requires-clause-room : goal.put-requires-clause-room
put-requires-clause-room c =
    let number = c.args.number in
    number_room c.args.bits c.args.out.now c.loop-time.out (fields c.args.bits (replicate c.args.count number)) number _ _
    (next_time number c.args.count c.loop-time._time c.loop-time-test.true) c.loop-time.invariant c.requires.room

pub loop-time-preserved : goal.loop-time-preserved
loop-time-preserved c =
    let number = c.args.number in
    number_more c.args.bits c.args.out.now c.loop-time.out c.put.new.self (fields c.args.bits (replicate c.args.count number)) number _ _
    (next_time number c.args.count c.loop-time._time c.loop-time-test.true) c.loop-time.invariant c.put.ensures.bits c.put.ensures.spare
