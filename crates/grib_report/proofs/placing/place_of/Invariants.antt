use Rattle.std.proofs.Common.{◌≡◌, ◌+◌, ◌-◌, ◌≤◌, length, drop}
use Rattle.grib_bitmap.specs.Mask.{present_count}
use Rattle.grib_report.specs.Placed.{place_in}
use Rattle.grib_report.proofs.placing.place_of.Given as goal

-- the point is the one with this number of those that are present from here on
abbrev pub invariant-loop-place : goal.invariant-loop-place
invariant-loop-place l =
    (l.place ≤ length l.mask) × (1 ≤ l.left) × (l.left ≤ present_count (drop l.place l.mask))
    × (place_in l.mask l.nth ≡ l.place + place_in (drop l.place l.mask) l.left)

abbrev pub decreases-loop-place : goal.decreases-loop-place
decreases-loop-place l = length l.mask - l.place
