use Rattle.std.proofs.Common.{◌≡◌, ℕ, ◌+◌, ◌*◌, ◌<◌, ◌≤◌, length}
use Rattle.grib_rescan.specs.Scanning.{scanning_of}
use Rattle.grib_rescan.specs.Points.{rescanned_points}
use Rattle.grib_rescan.specs.Put.{IsPut, Keeps}
use Rattle.grib_rescan.proofs.points.put_part.Given as goal

abbrev pub invariant-loop-column : goal.invariant-loop-column
invariant-loop-column g l =
    let wanted = rescanned_points (scanning_of 0x20) l.columns l.rows (g.P.GridPoints.points l.points) in
    record {
      size : length l.out ≡ l.columns * l.rows;
      keeps : Keeps wanted l.initial.out l.out;
      made : (i : ℕ) → l.first ≤ i → i < l.column → IsPut wanted l.out (l.row * l.columns + i);
    }
