use Rattle.std.proofs.Common.{option_map, ap, ◌∙◌}
use Rattle.grib_edit.specs.Rescanning.{edit_cause}
use Rattle.grib_command.proofs.Answers.{by_octets}
use Rattle.grib_edit.proofs.KeptBy.{by_cause, not_edited}
use Rattle.grib_edit.proofs.rescanning.RescanningValueChanger.change_values.Goals as goal

pub returns-in-Ok : goal.returns-in-Ok
returns-in-Ok g c = λ place.
    by_octets g.T.Sink.contents g.T.Sink.faults g.T.Sink.settled c.write_counted.result c.written.result _ _ _ c.as_slice.result.now _ _ c.written.ensures
    (ap (option_map edit_cause) c.in-Ok.ensures.0) (c.as_slice.ensures.value ∙ c.in-Ok.ensures.1) c.write_counted.ensures.count c.write_counted.ensures.writes

pub returns-in-Err : goal.returns-in-Err
returns-in-Err g c = λ place. by_cause g.T.Sink.contents g.T.Sink.faults g.T.Sink.settled c.unedited.result _ _ _ _ _ c.unedited.ensures (not_edited _ c.in-Err.fault c.in-Err.ensures)
