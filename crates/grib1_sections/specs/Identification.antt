-- Section 1, the product definition section (WMO-No. 306, Volume I.2, FM 92 GRIB edition 1): octet 8
-- flags the sections that follow (code table 1), bit 1 Section 2, bit 2 Section 3.
use Rattle.std.specs.Prelude.{ℕ, Bool, not, List, [], ◌∷◌}
use Rattle.grib_bits.specs.Bits.{bit}
use Rattle.grib_bits.specs.Octets.{octets}
use Rattle.grib_base.specs.declared.fault.Reason.TheVariants.{NoGridSection}
use Rattle.grib_base.specs.Rules.{Rule, rule}

abbrev pub section_flags : List ℕ → ℕ
section_flags s = octets s 8 8

abbrev pub flags_grid : List ℕ → Bool
flags_grid s = bit 1 (section_flags s)

abbrev pub flags_bitmap : List ℕ → Bool
flags_bitmap s = bit 2 (section_flags s)

-- rule B1.1
abbrev pub identification_rules : List ℕ → List Rule
identification_rules s =
    rule (not (flags_grid s)) 8 NoGridSection (section_flags s)  -- B1.1
    ∷ []
