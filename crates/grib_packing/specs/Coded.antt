-- CCSDS packing (WMO-No. 306, Volume I.2, FM 92 GRIB edition 2, templates 5.42 and 7.42; CCSDS 121.0-B).
use Rattle.std.specs.Prelude.{ℕ, Bool, not, ◌&&◌, ◌||◌, ◌==◌, nat_lt, Option, Some, None, List, [], ◌∷◌, length, map, drop, replicate, pos}
use Rattle.grib_bits.specs.Bits.{bits}
use Rattle.grib_bits.specs.Octets.{octets}
use Rattle.grib_base.specs.declared.fault.Fault.{Fault}
use Rattle.grib_base.specs.declared.fault.Reason.TheVariants.{Ccsds, DataTooShort, BlockCode, ScaledRange}
use Rattle.grib_base.specs.Rules.{Rule, rule, refusal, choose}
use Rattle.grib_coding.specs.declared.coding.Coding.{Coding}
use Rattle.grib_coding.specs.declared.fault.BlockFault.{BlockFault}
use Rattle.grib_coding.specs.declared.fault.BlockFault.TheVariants.{Short, Block, Value}
use Rattle.grib_coding.specs.Coding.{has_flag, is_restricted}
use Rattle.grib_coding.specs.Numbers.{numbers_told}
use Rattle.grib_coding.specs.Reading.{Decoded, decoded}
use Rattle.grib_packing.specs.declared.column.Point.{Point}
use Rattle.grib_packing.specs.declared.column.Point.TheVariants.{Scaled}
use Rattle.grib_packing.specs.Packing.{value_count, bit_width}

-- what the blocks of Section 7 are coded by: octets 20 and 22 to 25
abbrev pub coding_of : List ℕ → Coding
coding_of s = record {
  bits = bit_width s;
  flags = octets s 22 22;
  block = octets s 23 23;
  interval = octets s 24 25;
}

-- Numbers of no bits are not coded: each is 0, and neither octets 22 to 25 nor Section 7 are read.
abbrev pub is_coded : List ℕ → Bool
is_coded s = nat_lt 0 (bit_width s)

-- Refused are numbers with a sign (1), blocks of any size (64), a flag without a meaning (128), and short identifiers
-- (16) for numbers of more than 4 bits.
abbrev pub are_flags_refused : Coding → Bool
are_flags_refused c = has_flag c.flags 1 || (has_flag c.flags 64 || (has_flag c.flags 128 || (is_restricted c && nat_lt 4 c.bits)))

abbrev pub is_block : ℕ → Bool
is_block j = (j == 8) || ((j == 16) || ((j == 32) || (j == 64)))

-- rules S5.14 to S5.16
abbrev pub coded_rules : List ℕ → List Rule
coded_rules s =
    let c = coding_of s in
    rule (is_coded s && are_flags_refused c) 22 Ccsds c.flags  -- S5.14
    ∷ rule (is_coded s && not (is_block c.block)) 23 Ccsds c.block  -- S5.15
    ∷ rule (is_coded s && ((c.interval == 0) || nat_lt 4096 c.interval)) 24 Ccsds c.interval  -- S5.16
    ∷ []

-- what the bits from octet 6 of Section 7 on tell of the values
abbrev pub decoded_of : List ℕ → List ℕ → Decoded
decoded_of s5 s7 = decoded (coding_of s5) (value_count s5) (bits (drop 5 s7))

-- the refusal for the first item that is at fault, of a Section 7 of l octets: rules S7.8 to S7.11
abbrev pub block_refusal : ℕ → Option BlockFault → Option Fault
block_refusal l None = None
block_refusal l (Some Short) = Some (refusal 1 DataTooShort l)  -- S7.8
block_refusal l (Some (Block block)) = Some (refusal 1 BlockCode block)  -- S7.9, S7.10
block_refusal l (Some (Value value)) = Some (refusal 1 ScaledRange value)  -- S7.11

abbrev pub coded_data_fault : List ℕ → List ℕ → Option Fault
coded_data_fault s5 s7 = choose (is_coded s5) (λ _. block_refusal (length s7) (decoded_of s5 s7).fault) (λ _. None)

-- the numbers of the values, which are their scaled integers
abbrev pub coded_numbers : List ℕ → List ℕ → List ℕ
coded_numbers s5 s7 = numbers_told (coding_of s5) 0 (decoded_of s5 s7).entries

abbrev pub point_of : ℕ → Point
point_of number = Scaled (pos number)

abbrev pub coded_entries : List ℕ → List ℕ → List Point
coded_entries s5 s7 =
    choose (is_coded s5) (λ _. map point_of (coded_numbers s5 s7)) (λ _. replicate (value_count s5) (point_of 0))
