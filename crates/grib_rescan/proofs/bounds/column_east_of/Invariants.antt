use Rattle.grib_rescan.specs.Sections.{longitude_at}
use Rattle.grib_rescan.specs.Bounds.{east_of}
use Rattle.grib_rescan.proofs.Closest.{IsSoFar}
use Rattle.grib_rescan.proofs.bounds.column_east_of.Given as goal

abbrev pub invariant-loop-column : goal.invariant-loop-column
invariant-loop-column l = IsSoFar (λ i. east_of l.west (longitude_at l.section i)) l.column l.closest
