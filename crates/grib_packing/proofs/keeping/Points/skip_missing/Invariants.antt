use Rattle.std.proofs.Common.{◌-◌, ◌≡◌, List, Bool, length}
use Rattle.grib_packing.specs.declared.column.Point.{Point}
use Rattle.grib_packing.specs.Kept.{ArePoints}
use Rattle.grib_packing.proofs.keeping.Points.skip_missing.Given as goal

abbrev pub invariant-loop-place : goal.invariant-loop-place
invariant-loop-place l = record {
  none : l.self.left ≡ 0;
  are : (mask : List Bool) (seen : List Point) → ArePoints mask seen l.fn.self → ArePoints mask seen l.self × (l.place ≡ length l.self.points.items);
}

abbrev pub decreases-loop-place : goal.decreases-loop-place
decreases-loop-place l = length l.self.mask.value - l.place
