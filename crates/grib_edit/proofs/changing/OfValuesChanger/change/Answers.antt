use Rattle.grib_command.proofs.Readable.{by_read, by_opaque}
use Rattle.grib_edit.proofs.changing.OfValuesChanger.change.Goals as goal

pub returns-in-Ok : goal.returns-in-Ok
returns-in-Ok g c = λ place.
    by_read g.T.Sink.contents g.T.Sink.faults g.T.Sink.settled c.change_values.result (g.C.ValueChanger.gives c.args.self.now.0)
    place c.args.message.now c.in-Ok.message _ _ c.in-Ok.ensures.0 c.in-Ok.ensures.2 (c.change_values.ensures place)

pub returns-in-Err : goal.returns-in-Err
returns-in-Err g c = λ place.
    by_opaque g.T.Sink.contents g.T.Sink.faults g.T.Sink.settled c.unreadable.result (g.C.ValueChanger.gives c.args.self.now.0)
    place c.args.message.now c.in-Err.opaque _ c.unreadable.ensures c.in-Err.ensures
