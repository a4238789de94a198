-- Simple packing (WMO-No. 306, Volume I.2, FM 92 GRIB edition 2, templates 5.0 and 7.0).
use Rattle.std.specs.Prelude.{ℕ, ◌+◌, ◌*◌, List, [], ◌∷◌, drop, map, nat_lt, pos}
use Rattle.grib_bits.specs.Bits.{bits}
use Rattle.grib_bits.specs.Plain.{plain}
use Rattle.grib_base.specs.declared.fault.Reason.TheVariants.{DataTooShort}
use Rattle.grib_base.specs.Rules.{Rule, rule}
use Rattle.grib_packing.specs.declared.column.Point.{Point}
use Rattle.grib_packing.specs.declared.column.Point.TheVariants.{Scaled}
use Rattle.grib_packing.specs.Packing.{value_count, bit_width}

-- the bits that the numbers of the values take
abbrev pub plain_bits : List ℕ → ℕ
plain_bits s5 = value_count s5 * bit_width s5

-- rule S7.1, for a Section 7 of l octets that belongs to this Section 5
abbrev pub simple_rules : List ℕ → ℕ → List Rule
simple_rules s5 l = rule (nat_lt (8 * l) (plain_bits s5 + 40)) 1 DataTooShort l  -- S7.1
    ∷ []

-- the entries of the present points: the plain numbers from octet 6 of Section 7 on
abbrev pub simple_entries : List ℕ → List ℕ → List Point
simple_entries s5 s7 = map (λ x. Scaled (pos x)) (plain (bits (drop 5 s7)) (bit_width s5) (value_count s5))
