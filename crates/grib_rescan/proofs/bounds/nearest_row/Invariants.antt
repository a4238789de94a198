use Rattle.grib_rescan.specs.Bounds.{row_distance}
use Rattle.grib_rescan.proofs.Closest.{IsSoFar}
use Rattle.grib_rescan.proofs.bounds.nearest_row.Given as goal

abbrev pub invariant-loop-row : goal.invariant-loop-row
invariant-loop-row l = IsSoFar (row_distance l.latitude l.section) l.row l.closest
