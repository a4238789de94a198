use Rattle.std.proofs.Common.{◌≡◌, ◌++◌, take}
use Rattle.grib_io.specs.Outside.{Unfinished}
use Rattle.grib_text.specs.Values.{value_lines}
use Rattle.grib_command.specs.Pending.{AppendsAllBut}
use Rattle.grib_report.proofs.points.append_values.Given as goal

-- the lines of the points so far were written but for the buffer, and no fault
abbrev pub invariant-loop-index : goal.invariant-loop-index
invariant-loop-index g l = record {
  appended : AppendsAllBut (g.T.Sink.contents l.fn.output) (g.T.Sink.contents l.output) (l.fn.lines.items ++ value_lines l.scale 1 (take l.index l.points)) l.lines.items;
  faults_stay : g.T.Sink.faults l.output ≡ g.T.Sink.faults l.fn.output;
  unfinished : Unfinished (g.T.Sink.settled l.fn.output) (g.T.Sink.settled l.output);
}
