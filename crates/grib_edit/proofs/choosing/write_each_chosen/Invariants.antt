use Rattle.std.proofs.Common.{◌≡◌, ◌*◌, ◌≤◌, length}
use Rattle.grib_io.specs.Outside.{Unfinished}
use Rattle.std.specs.Io.KnownBytes.{Appends}
use Rattle.grib_base.specs.declared.limits.TheConstants.{MOST_OCTETS}
use Rattle.grib_command.specs.Command.{texts_from}
use Rattle.grib_edit.specs.Choosing.{single_chosen}
use Rattle.grib_edit.proofs.choosing.write_each_chosen.Given as goal

-- the fields so far that fulfil the conditions were written and counted, and no fault
abbrev pub invariant-loop-index : goal.invariant-loop-index
invariant-loop-index g l = record {
  appended : Appends (g.T.Sink.contents l.fn.output) (g.T.Sink.contents l.output) (texts_from (single_chosen (g.C.Chooser.chosen l.chooser l.message) l.message) l.index 1);
  faults_stay : g.T.Sink.faults l.output ≡ g.T.Sink.faults l.fn.output;
  unfinished : Unfinished (g.T.Sink.settled l.fn.output) (g.T.Sink.settled l.output);
  count : l.written ≡ length (texts_from (single_chosen (g.C.Chooser.chosen l.chooser l.message) l.message) l.index 1);
  few : l.written ≤ MOST_OCTETS * l.index;
}
