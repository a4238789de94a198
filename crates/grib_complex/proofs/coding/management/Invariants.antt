use Rattle.std.proofs.Common.{◌≡◌, ◌≤◌, max, drop}
use Rattle.grib_packing.specs.Misfits.{management_of}
use Rattle.grib_complex.proofs.coding.management.Given as goal

abbrev pub invariant-loop-point : goal.invariant-loop-point
invariant-loop-point l = record {
  all : max l.most (management_of (drop l.point-index l.points)) ≡ management_of l.points;
  few : l.most ≤ 2;
}
