use Rattle.grib_command.proofs.Readable.{by_read, by_opaque}
use Rattle.grib_placed.specs.Commands.{placed_given}
use Rattle.grib_placed.specs.Dumping.{dump_placed_text}
use Rattle.grib_placed.proofs.dumping.PlacedDumpingWriter.second.Goals as goal

pub returns-in-Ok : goal.returns-in-Ok
returns-in-Ok g c =
    by_read g.T.Sink.contents g.T.Sink.faults g.T.Sink.settled c.write_second.result (placed_given dump_placed_text)
    c.args.place.now c.args.message.now c.in-Ok.message _ _ c.in-Ok.ensures.0 c.in-Ok.ensures.2 c.write_second.ensures

pub returns-in-Err : goal.returns-in-Err
returns-in-Err g c =
    by_opaque g.T.Sink.contents g.T.Sink.faults g.T.Sink.settled c.unreadable.result (placed_given dump_placed_text)
    c.args.place.now c.args.message.now c.in-Err.opaque _ c.unreadable.ensures c.in-Err.ensures
