-- A field that stands in simple packing.
use Rattle.std.proofs.Common.{◌≡◌, ℕ, ◌+◌, ◌*◌, ◌-◌, ◌≤◌, None, List, length, take, drop, sym, ap, ap₂, ◌∙◌, arith, mul_comm, length-drop, ltb-false}
use Rattle.std.proofs.lemmas.List.{take_rest}
use Rattle.grib_bits.specs.Bits.{bits}
use Rattle.grib_bits.specs.Plain.{plain}
use Rattle.grib_packing.specs.declared.representation.Simple.{Simple}
use Rattle.grib_packing.specs.Entries.{data_fault, own_packing}
use Rattle.grib_packing.specs.Packing.{packing_template, value_count, bit_width}
use Rattle.grib_packing.specs.Representation.{Spelled}
use Rattle.grib_packing.specs.Simple.{simple_rules}
use Rattle.grib_packing.proofs.Packings.{data_fault-simple, most-simple}
use Rattle.grib2_message.proofs.Passed.{passes_from_none}
use Rattle.grib2_message.specs.Fields.{part_octets}

-- the packed numbers of field i
abbrev pub numbers_in : List ℕ → ℕ → List ℕ
numbers_in message i =
    plain (bits (drop 5 (part_octets message i 7))) (bit_width (part_octets message i 5)) (value_count (part_octets message i 5))

-- Section 7 has its numbers
pub has_numbers : (s5 s7 : List ℕ) → packing_template s5 ≡ 0 → data_fault s5 s7 ≡ None → value_count s5 * bit_width s5 + 40 ≤ 8 * length s7
has_numbers s5 s7 template none =
    let rules = passes_from_none (simple_rules s5 (length s7)) (sym (data_fault-simple s5 s7 template) ∙ none) in
    ltb-false (8 * length s7) (value_count s5 * bit_width s5 + 40) rules.0

-- a number of simple packing has 48 bits at most
pub narrow_bits : (s5 : List ℕ) → packing_template s5 ≡ 0 → bit_width s5 ≤ (own_packing s5).most → bit_width s5 ≤ 48
narrow_bits s5 template narrow = omega (arith, narrow, most-simple (packing_template s5) template)

-- what is read from octet 6 of Section 7 on, by the numbers of Section 5
module _ (message : List ℕ) (i : ℕ) (simple : Simple) (s7 : List ℕ) (w : ℕ) (spelled : Spelled simple (part_octets message i 5))
    (own : s7 ≡ part_octets message i 7) (width : w ≡ simple.bits) where
  pub numbers_read : plain (bits (take (length s7 - 5) (drop 5 s7))) w simple.values ≡ numbers_in message i
  numbers_read =
      ap (λ (xs : List ℕ). plain (bits xs) w simple.values) (take_rest s7 5 ∙ ap (drop 5) own)
      ∙ ap₂ (λ (v n : ℕ). plain (bits (drop 5 (part_octets message i 7))) v n) (width ∙ spelled.bits) spelled.values

  -- they stand in Section 7
  pub room_read : packing_template (part_octets message i 5) ≡ 0 → data_fault (part_octets message i 5) (part_octets message i 7) ≡ None
      → w * simple.values ≤ 8 * length (take (length s7 - 5) (drop 5 s7))
  room_read template none =
      let s5 = part_octets message i 5 in
      let product : w * simple.values ≡ value_count s5 * bit_width s5 =
      ap₂ (λ (a b : ℕ). a * b) (width ∙ spelled.bits) spelled.values ∙ mul_comm (bit_width s5) (value_count s5) in
      let rest : length (take (length s7 - 5) (drop 5 s7)) ≡ length (part_octets message i 7) - 5 =
      ap length (take_rest s7 5 ∙ ap (drop 5) own) ∙ length-drop 5 (part_octets message i 7) in
      omega (arith, product, rest, has_numbers s5 (part_octets message i 7) template none)
