use Rattle.std.proofs.Common.{◌≡◌, ◌-◌, ◌≤◌, length, take}
use Rattle.std.specs.Io.KnownBytes.{Appends}
use Rattle.grib_io.specs.Outside.{Unfinished}
use Rattle.grib_items.proofs.writing.write_whole.Given as goal

-- what was written so far, and no fault
abbrev pub invariant-loop-written : goal.invariant-loop-written
invariant-loop-written g l = record {
  appended : Appends (g.T.Sink.contents l.fn.sink) (g.T.Sink.contents l.sink) (take l.written l.piece);
  calm : g.T.Sink.faults l.sink ≡ g.T.Sink.faults l.fn.sink;
  unfinished : Unfinished (g.T.Sink.settled l.fn.sink) (g.T.Sink.settled l.sink);
  within : l.written ≤ length l.piece;
}

abbrev pub decreases-loop-written : goal.decreases-loop-written
decreases-loop-written g l = length l.piece - l.written
