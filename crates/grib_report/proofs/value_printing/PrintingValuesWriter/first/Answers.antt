use Rattle.std.proofs.Common.{refl}
use Rattle.grib_command.proofs.Answers.{by_printing}
use Rattle.grib_report.proofs.value_printing.PrintingValuesWriter.first.Goals as goal

pub returns : goal.returns
returns g c =
    by_printing g.T.Sink.contents g.T.Sink.faults g.T.Sink.settled c.write_first.result c.printed.result _ _ _ _ _ c.printed.ensures refl c.write_first.ensures
