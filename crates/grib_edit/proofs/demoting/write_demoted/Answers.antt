use Rattle.std.proofs.Common.{refl, ◌∙◌}
use Rattle.grib_command.proofs.Answers.{by_octets}
use Rattle.grib_edit.proofs.KeptBy.{kept}
use Rattle.grib_edit.proofs.demoting.write_demoted.Goals as goal

pub write_fields-requires : goal.write_fields-requires
write_fields-requires g c = c.as_slice.ensures.value ∙ c.in-Ok.ensures.1

pub returns-in-Ok : goal.returns-in-Ok
returns-in-Ok g c = λ place.
    by_octets g.T.Sink.contents g.T.Sink.faults g.T.Sink.settled c.write_fields.result c.written.result _ _ _ _ _ _ c.written.ensures
    c.in-Ok.ensures.0 refl c.write_fields.ensures.count c.write_fields.ensures.writes

pub returns-in-Err : goal.returns-in-Err
returns-in-Err g c = λ place.
    kept g.T.Sink.contents g.T.Sink.faults g.T.Sink.settled c.in-Err.answered _ _ _ _ c.in-Err.ensures
