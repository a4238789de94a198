use Rattle.std.proofs.Common.{ap, sym}
use Rattle.grib_command.specs.Command.{given_whole}
use Rattle.grib_command.proofs.Answers.{by_writing}
use Rattle.grib_edit.proofs.demoting.DemotingWriter.first.Goals as goal

pub returns : goal.returns
returns g c =
    by_writing g.T.Sink.contents g.T.Sink.faults g.T.Sink.settled c.write_counted.result c.written.result _ _ _ _ _ c.written.ensures (ap given_whole (sym c.octets.ensures.octets))
    c.write_counted.ensures.count c.write_counted.ensures.writes
