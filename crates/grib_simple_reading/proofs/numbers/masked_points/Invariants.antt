use Rattle.std.proofs.Common.{◌≡◌, ◌+◌, ◌-◌, ◌≤◌, ◌++◌, length, map, drop, pos}
use Rattle.grib_bits.specs.Bits.{bits}
use Rattle.grib_bits.specs.Plain.{plain}
use Rattle.grib_bitmap.specs.Mask.{present_count}
use Rattle.grib_packing.specs.Column.{points_with_mask}
use Rattle.grib_packing.specs.declared.column.Point.TheVariants.{Scaled}
use Rattle.grib_simple_reading.proofs.numbers.masked_points.Given as goal

abbrev pub invariant-loop-place : goal.invariant-loop-place
invariant-loop-place l =
    let entries = map (λ x. Scaled (pos x)) (plain (bits l.octets) l.bits (present_count l.mask)) in
    record {
      within : l.place ≤ length l.mask;
      taken : l.taken + present_count (drop l.place l.mask) ≡ present_count l.mask;
      points : l.points.items ++ points_with_mask (drop l.place l.mask) (drop l.taken entries) ≡ points_with_mask l.mask entries;
    }

abbrev pub decreases-loop-place : goal.decreases-loop-place
decreases-loop-place l = length l.mask - l.place
