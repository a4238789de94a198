use Rattle.std.proofs.Common.{refl}
use Rattle.grib_command.proofs.Answers.{by_writing}
use Rattle.grib_edit.proofs.filtering1.Filtering1Writer.first.Goals as goal

pub returns : goal.returns
returns g c =
    by_writing g.T.Sink.contents g.T.Sink.faults g.T.Sink.settled c.write_if_matching.result c.written.result _ _ _ _ _ c.written.ensures refl
    c.write_if_matching.ensures.count c.write_if_matching.ensures.writes
