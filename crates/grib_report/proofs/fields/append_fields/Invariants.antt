use Rattle.std.proofs.Common.{◌≡◌, ◌++◌}
use Rattle.grib_io.specs.Outside.{Unfinished}
use Rattle.grib_command.specs.Pending.{AppendsAllBut}
use Rattle.grib_command.specs.Command.{texts_from}
use Rattle.grib_report.proofs.fields.append_fields.Given as goal

-- the texts of the fields so far were written but for the buffer, and no fault
abbrev pub invariant-loop-index : goal.invariant-loop-index
invariant-loop-index g l = record {
  appended : AppendsAllBut (g.T.Sink.contents l.fn.output) (g.T.Sink.contents l.output) (l.fn.lines.items ++ texts_from (g.F.FieldTexts.text l.texts) l.index 1) l.lines.items;
  faults_stay : g.T.Sink.faults l.output ≡ g.T.Sink.faults l.fn.output;
  unfinished : Unfinished (g.T.Sink.settled l.fn.output) (g.T.Sink.settled l.output);
}
