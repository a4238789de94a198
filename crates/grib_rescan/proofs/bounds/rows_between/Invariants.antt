use Rattle.std.proofs.Common.{◌≡◌}
use Rattle.grib_rescan.specs.Bounds.{held, in_rows}
use Rattle.grib_rescan.specs.Places.{held_of}
use Rattle.grib_rescan.proofs.bounds.rows_between.Given as goal

abbrev pub invariant-loop-row : goal.invariant-loop-row
invariant-loop-row l = l.held ≡ held_of (held (in_rows l.south l.north l.section) l.row)
