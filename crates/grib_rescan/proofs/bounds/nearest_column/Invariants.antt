use Rattle.grib_rescan.specs.Bounds.{column_distance}
use Rattle.grib_rescan.proofs.Closest.{IsSoFar}
use Rattle.grib_rescan.proofs.bounds.nearest_column.Given as goal

abbrev pub invariant-loop-column : goal.invariant-loop-column
invariant-loop-column l = IsSoFar (column_distance l.longitude l.section) l.column l.closest
