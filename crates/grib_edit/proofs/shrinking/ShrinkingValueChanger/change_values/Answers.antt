use Rattle.std.proofs.Common.{refl, ◌∙◌}
use Rattle.grib_command.proofs.Answers.{by_octets}
use Rattle.grib_edit.proofs.shrinking.ShrinkingValueChanger.change_values.Goals as goal

pub returns-in-Ok : goal.returns-in-Ok
returns-in-Ok g c = λ place.
    by_octets g.T.Sink.contents g.T.Sink.faults g.T.Sink.settled c.write_counted.result c.written.result _ _ _ c.as_slice.result.now _ _ c.written.ensures
    refl (c.as_slice.ensures.value ∙ c.in-Ok.ensures) c.write_counted.ensures.count c.write_counted.ensures.writes
