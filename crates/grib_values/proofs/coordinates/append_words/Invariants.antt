use Rattle.std.proofs.Common.{◌≡◌, ℕ, List, ◌++◌}
use Rattle.grib_io.specs.Outside.{Unfinished}
use Rattle.grib_places.specs.declared.coordinate.Coordinate.{Coordinate}
use Rattle.grib_places.specs.Tables.{AreWordsOf}
use Rattle.grib_command.specs.Pending.{AppendsAllBut}
use Rattle.grib_values.specs.Coordinates.{coordinates_from}
use Rattle.grib_values.proofs.coordinates.append_words.Given as goal

-- the octets of the points so far were written but for the buffer, and no fault
abbrev pub invariant-loop-point : goal.invariant-loop-point
invariant-loop-point g l = record {
  appended : (coordinate : Coordinate) (s : List ℕ) → AreWordsOf l.places coordinate s
      → AppendsAllBut (g.T.Sink.contents l.fn.output) (g.T.Sink.contents l.output) (l.fn.octets.items ++ coordinates_from coordinate s l.point) l.octets.items;
  faults_stay : g.T.Sink.faults l.output ≡ g.T.Sink.faults l.fn.output;
  unfinished : Unfinished (g.T.Sink.settled l.fn.output) (g.T.Sink.settled l.output);
}
