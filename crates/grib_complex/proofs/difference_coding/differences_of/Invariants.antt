use Rattle.grib_packing.specs.Misfits.{scaled_numbers}
use Rattle.grib_spatial.specs.Trail.{IsNear, IsToldBy}
use Rattle.grib_complex.proofs.PointByPoint.{Seen}
use Rattle.grib_complex.proofs.difference_coding.differences_of.Given as goal

abbrev pub invariant-loop-point : goal.invariant-loop-point
invariant-loop-point l = record {
  seen : Seen l.points l.point-index l.told.trail.count;
  near : IsNear l.told.trail;
  told : IsToldBy l.order l.told (scaled_numbers l.points);
}
