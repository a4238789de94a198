-- Fields in simple packing none of whose points is missing.
use Rattle.std.proofs.Common.{◌≡◌, ℕ, Bool, List, length, map, drop, sym, ap, ◌∙◌}
use Rattle.grib_bits.specs.Bits.{bits}
use Rattle.grib_bits.specs.Plain.{plain}
use Rattle.grib_bitmap.specs.Mask.{present_count}
use Rattle.grib_packing.specs.Column.{points_with_mask}
use Rattle.grib_packing.specs.Entries.{entries_of}
use Rattle.grib_packing.specs.Packing.{packing_template, value_count, bit_width}
use Rattle.grib_packing.proofs.Packings.{entries_of-simple}
use Rattle.grib_simple_reading.proofs.Masked.{with_full_mask}
use Rattle.grib_rescan.proofs.Added.{scaled}

module _ (s5 s7 : List ℕ) (template : packing_template s5 ≡ 0) where
  -- its numbers are those of the points
  pub are_points : (mask : List Bool) → present_count mask ≡ value_count s5 → value_count s5 ≡ length mask
      → map scaled (plain (bits (drop 5 s7)) (bit_width s5) (value_count s5)) ≡ points_with_mask mask (entries_of s5 s7)
  are_points mask present full =
      sym (ap (points_with_mask mask) (entries_of-simple s5 s7 template) ∙ with_full_mask mask scaled (bits (drop 5 s7)) (bit_width s5) (value_count s5) present full)
