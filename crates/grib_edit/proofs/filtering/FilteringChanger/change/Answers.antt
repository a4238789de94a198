use Rattle.std.proofs.Common.{refl}
use Rattle.grib_command.proofs.Answers.{by_writing}
use Rattle.grib_edit.proofs.filtering.FilteringChanger.change.Goals as goal

pub returns : goal.returns
returns g c = λ place.
    by_writing g.T.Sink.contents g.T.Sink.faults g.T.Sink.settled c.write_chosen.result c.written.result _ _ _ _ _ c.written.ensures refl
    c.write_chosen.ensures.count c.write_chosen.ensures.writes
