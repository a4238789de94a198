-- Section 4, the binary data section (WMO-No. 306, Volume I.2, FM 92 GRIB edition 1): octet 4 has flags
-- (code table 11: bit 1 spherical harmonics, bit 2 complex or second-order packing, bit 4 more flags in
-- octet 14) and a count of unused bits, which is not used. Octet 11 is the number of bits of each number.
-- The numbers stand from octet 12 on, one for each point that is present.
use Rattle.std.specs.Prelude.{ℕ, ◌+◌, ◌*◌, List, [], ◌∷◌, length, nat_lt}
use Rattle.grib_bits.specs.Bits.{bit}
use Rattle.grib_bits.specs.Octets.{octets}
use Rattle.grib_base.specs.declared.fault.Reason.TheVariants.{Harmonics, SecondOrder, ExtraFlags, BitWidth, DataTooShort}
use Rattle.grib_base.specs.Rules.{Rule, rule}

abbrev pub data_flags : List ℕ → ℕ
data_flags s = octets s 4 4

abbrev pub bit_width : List ℕ → ℕ
bit_width s = octets s 11 11

-- rules B4.1 to B4.5, where `present` points are present
abbrev pub data_rules : ℕ → List ℕ → List Rule
data_rules present s =
    let l = length s in
    let flags = data_flags s in
    rule (bit 1 flags) 4 Harmonics flags  -- B4.1
    ∷ rule (bit 2 flags) 4 SecondOrder flags  -- B4.2
    ∷ rule (bit 4 flags) 4 ExtraFlags flags  -- B4.3
    ∷ rule (nat_lt 48 (bit_width s)) 11 BitWidth (bit_width s)  -- B4.4
    ∷ rule (nat_lt (8 * l) (present * bit_width s + 88)) 1 DataTooShort l  -- B4.5
    ∷ []
