use Rattle.std.proofs.Common.{◌≡◌, ◌*◌, ◌≤◌, length}
use Rattle.std.specs.Io.KnownBytes.{Appends}
use Rattle.grib_io.specs.Outside.{Unfinished}
use Rattle.grib_demote.specs.Demoted.{demoted}
use Rattle.grib_command.specs.Command.{texts_from}
use Rattle.grib_edit.proofs.demoting.write_fields.Given as goal

-- the fields so far were written and counted, and no fault
abbrev pub invariant-loop-index : goal.invariant-loop-index
invariant-loop-index g l = record {
  appended : Appends (g.T.Sink.contents l.fn.output) (g.T.Sink.contents l.output) (texts_from (demoted l.demoting.table.now l.demoting.matching l.demoting.keep_local l.message) l.index 1);
  faults_stay : g.T.Sink.faults l.output ≡ g.T.Sink.faults l.fn.output;
  unfinished : Unfinished (g.T.Sink.settled l.fn.output) (g.T.Sink.settled l.output);
  count : l.written ≡ length (texts_from (demoted l.demoting.table.now l.demoting.matching l.demoting.keep_local l.message) l.index 1);
  few : l.written ≤ 16777215 * l.index;
}
