-- Section 6, the bitmap section (WMO-No. 306, Volume I.2, FM 92 GRIB edition 2, code table 6.0): octet 6
-- is the indicator. 0: the bits follow from octet 7 on, one for each grid point, 1 meaning present;
-- 254: the bits of the last earlier bitmap of the message; 255: all points are present.
use Rattle.std.specs.Prelude.{ℕ, ◌+◌, ◌*◌, Bool, true, not, cond, ◌&&◌, Option, List, [], ◌∷◌, length, take, drop, replicate, is_none, unwrap_or, nat_lt, ◌==◌, count_by}
use Rattle.grib_bits.specs.Bits.{bits}
use Rattle.grib_bits.specs.Octets.{octets}
use Rattle.grib_base.specs.declared.fault.Reason.TheVariants.{SectionLength, BitmapIndicator, NoEarlierBitmap, BitmapSize, ValueCount}
use Rattle.grib_base.specs.Rules.{Rule, rule}

abbrev pub bitmap_indicator : List ℕ → ℕ
bitmap_indicator s = octets s 6 6

-- the bits of a section whose indicator is 0
abbrev pub own_mask : List ℕ → ℕ → List Bool
own_mask s points = take points (bits (drop 6 s))

-- which of the grid points are present
abbrev pub mask_of : List ℕ → ℕ → Option (List Bool) → List Bool
mask_of s points earlier =
    let indicator = bitmap_indicator s in
    cond (indicator == 255) (replicate points true) (cond (indicator == 254) (unwrap_or earlier []) (own_mask s points))

-- how many points are present
abbrev pub present_count : List Bool → ℕ
present_count mask = count_by (λ present. present) mask

-- rules S6.1 to S6.6, where the grid has this many points, Section 5 this many values, and `earlier` is the
-- mask of the last earlier Section 6 with the indicator 0
abbrev pub bitmap_rules : List ℕ → ℕ → ℕ → Option (List Bool) → List Rule
bitmap_rules s points values earlier =
    let l = length s in
    let indicator = bitmap_indicator s in
    let earlier_length = length (unwrap_or earlier []) in
    let present = present_count (mask_of s points earlier) in
    rule (nat_lt l 6) 1 SectionLength l  -- S6.1
    ∷ rule (nat_lt 0 indicator && nat_lt indicator 254) 6 BitmapIndicator indicator  -- S6.2
    ∷ rule (indicator == 254 && is_none earlier) 6 NoEarlierBitmap 254  -- S6.3
    ∷ rule (indicator == 0 && nat_lt (8 * l) (points + 48)) 1 BitmapSize l  -- S6.4
    ∷ rule (indicator == 254 && not (earlier_length == points)) 6 BitmapSize earlier_length  -- S6.5
    ∷ rule (not (present == values)) 6 ValueCount present  -- S6.6
    ∷ []
