use Rattle.grib_command.proofs.Readable.{by_read, by_opaque}
use Rattle.grib_edit.specs.Demoting.{demoted_given}
use Rattle.grib_edit.proofs.demoting.DemotingWriter.second.Goals as goal

pub returns-in-Ok : goal.returns-in-Ok
returns-in-Ok g c =
    let by = c.args.self.now in
    by_read g.T.Sink.contents g.T.Sink.faults g.T.Sink.settled c.write_demoted.result (demoted_given by.matching by.keep_local by.any_earth by.table.now)
    c.args._place.now c.args.message.now c.in-Ok.message _ _ c.in-Ok.ensures.0 c.in-Ok.ensures.2 (c.write_demoted.ensures c.args._place.now)

pub returns-in-Err : goal.returns-in-Err
returns-in-Err g c =
    let by = c.args.self.now in
    by_opaque g.T.Sink.contents g.T.Sink.faults g.T.Sink.settled c.unreadable.result (demoted_given by.matching by.keep_local by.any_earth by.table.now)
    c.args._place.now c.args.message.now c.in-Err.opaque _ c.unreadable.ensures c.in-Err.ensures
