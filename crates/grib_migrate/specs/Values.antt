-- Sections 5, 6 and 7 (WMO-No. 306, Volume I.2, FM 92 GRIB edition 2, template 5.0), from octet 6 on, by
-- Sections 1, 3 and 4 of edition 1. The numbers are not unpacked.
use Rattle.std.specs.Prelude.{ℕ, ◌+◌, ◌-◌, ◌*◌, ◌/◌, ◌%◌, ◌^◌, cond, Option, Some, None, List, [], ◌∷◌, ◌++◌, take, drop, ◌==◌}
use Rattle.std.specs.Option.{option_map_or}
use Rattle.grib_bits.specs.Bits.{bit, digit}
use Rattle.grib_bits.specs.Octets.{octets}
use Rattle.grib1_sections.specs.Data.{data_flags, bit_width}
use Rattle.grib1_sections.specs.Keys.{key_in}
use Rattle.grib_keys.specs.declared.key1.Key1.TheVariants.{DecimalScale}
use Rattle.grib_bits.specs.declared.adding.Number.{Number}
use Rattle.grib_bits.specs.declared.adding.Number.TheVariants.{One, Two, Four}
use Rattle.grib_migrate.specs.References.{binary32_of}

-- the reference value of a Section 4
abbrev pub reference : List ℕ → ℕ
reference s4 = octets s4 7 10

-- Section 5, with this number of present points; the reference is 0 where it has no binary32 word, which is a loss
abbrev pub packing_numbers : List ℕ → List ℕ → ℕ → List Number
packing_numbers s1 s4 values =
    Four values  -- 6-9
    ∷ Two 0  -- 10-11: the template
    ∷ Four (option_map_or (λ w. w) (binary32_of (reference s4)) 0)  -- 12-15
    ∷ Two (octets s4 5 6)  -- 16-17: the binary scale factor
    ∷ Two (key_in s1 DecimalScale)  -- 18-19
    ∷ One (bit_width s4)  -- 20
    ∷ One (digit (bit 3 (data_flags s4)))  -- 21: the original values were integers
    ∷ []

-- the first n bits of some octets, with zeros up to the end of an octet
abbrev pub front_octets : List ℕ → ℕ → List ℕ
front_octets from n =
    let last = octets from (n / 8 + 1) (n / 8 + 1) in
    take (n / 8) from ++ cond (n % 8 == 0) [] ((last - last % 2 ^ (8 - n % 8)) ∷ [])

-- Section 6, for this number of points: no bitmap, or one bit for each
abbrev pub bitmap_octets : Option (List ℕ) → ℕ → List ℕ
bitmap_octets None points = 255 ∷ []
bitmap_octets (Some s3) points = 0 ∷ front_octets (drop 6 s3) points

-- Section 7, with this number of present points
abbrev pub data_octets : List ℕ → ℕ → List ℕ
data_octets s4 values = front_octets (drop 11 s4) (values * bit_width s4)
