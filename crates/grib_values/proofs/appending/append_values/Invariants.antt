use Rattle.std.proofs.Common.{◌≡◌, ℤ, ◌++◌, take}
use Rattle.std.specs.Prelude.{flat_map}
use Rattle.grib_io.specs.Outside.{Unfinished}
use Rattle.grib_dyadic.specs.Reference.{Binary}
use Rattle.grib_nearest.specs.declared.format.Format.{Format}
use Rattle.grib_arrays.specs.Scale.{IsScaleOf}
use Rattle.grib_arrays.specs.Values.{point_octets}
use Rattle.grib_command.specs.Pending.{AppendsAllBut}
use Rattle.grib_values.proofs.appending.append_values.Given as goal

-- the points so far were written but for the buffer, and no fault
abbrev pub invariant-loop-point : goal.invariant-loop-point
invariant-loop-point g l = record {
  appended : (f : Format) (r : Binary) (e d : ℤ) → IsScaleOf l.scale f r e d
      → AppendsAllBut (g.T.Sink.contents l.fn.output) (g.T.Sink.contents l.output) (l.fn.octets.items ++ flat_map (point_octets f r e d) (take l.point-index l.points)) l.octets.items;
  faults_stay : (f : Format) (r : Binary) (e d : ℤ) → IsScaleOf l.scale f r e d → g.T.Sink.faults l.output ≡ g.T.Sink.faults l.fn.output;
  unfinished : (f : Format) (r : Binary) (e d : ℤ) → IsScaleOf l.scale f r e d → Unfinished (g.T.Sink.settled l.fn.output) (g.T.Sink.settled l.output);
}
