-- Section 3, the bitmap section (WMO-No. 306, Volume I.2, FM 92 GRIB edition 1): octets 5-6 are the number
-- of a bitmap that the centre has, 0 where the bits follow from octet 7 on, one for each grid point, 1
-- meaning present. Without the section all points are present. The count of unused bits in octet 4 is not
-- used.
use Rattle.std.specs.Prelude.{ℕ, ◌+◌, ◌*◌, Bool, true, not, Option, Some, None, List, [], ◌∷◌, length, take, drop, replicate, nat_lt, ◌==◌}
use Rattle.grib_bits.specs.Bits.{bits}
use Rattle.grib_bits.specs.Octets.{octets}
use Rattle.grib_base.specs.declared.fault.Reason.TheVariants.{BitmapIndicator, BitmapSize}
use Rattle.grib_base.specs.Rules.{Rule, rule}

abbrev pub bitmap_number : List ℕ → ℕ
bitmap_number s = octets s 5 6

-- rules B3.1 and B3.2, where the grid has `points` points
abbrev pub bitmap_rules : ℕ → List ℕ → List Rule
bitmap_rules points s =
    let l = length s in
    rule (not (bitmap_number s == 0)) 5 BitmapIndicator (bitmap_number s)  -- B3.1
    ∷ rule (nat_lt (8 * l) (points + 48)) 1 BitmapSize l  -- B3.2
    ∷ []

-- which of this number of grid points are present, by this Section 3 or without one
abbrev pub mask_of : Option (List ℕ) → ℕ → List Bool
mask_of None points = replicate points true
mask_of (Some s) points = take points (bits (drop 6 s))
