use Rattle.std.proofs.Common.{◌≡◌, ℕ, ◌+◌, ◌*◌, ◌<◌, length, min}
use Rattle.grib_rescan.specs.Scanning.{scanning_of}
use Rattle.grib_rescan.specs.Points.{rescanned_points}
use Rattle.grib_rescan.specs.Put.{IsPut}
use Rattle.grib_rescan.proofs.points.transpose.Given as goal

abbrev pub invariant-loop-number : goal.invariant-loop-number
invariant-loop-number g l =
    let wanted = rescanned_points (scanning_of 0x20) l.columns l.rows (g.P.GridPoints.points l.points) in
    record {
      size : length l.transposed.items ≡ l.columns * l.rows;
      made : (i j : ℕ) → i < min (l.number * 32) l.columns → j < l.rows → IsPut wanted l.transposed.items (j * l.columns + i);
    }
