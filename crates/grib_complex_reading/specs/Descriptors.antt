-- The extra descriptors of spatial differencing, by their order and octets (WMO-No. 306, Volume I.2, FM 92
-- GRIB edition 2, data template 7.3).
use Rattle.std.specs.Prelude.{◌≡◌, ℕ, ◌+◌, ◌-◌, ◌*◌, ◌/◌, ◌^◌, ◌≤◌, ◌⊎◌, Bool, cond, ◌&&◌, ◌==◌, nat_lt, Option, Some, None, List, get_or, length, pos, nat_abs}
use Rattle.grib_bits.specs.Bits.{bits, bits_of, signed}
use Rattle.grib_bits.specs.Plain.{plain}
use Rattle.grib_bits.specs.Octets.{octets, signed_octets}
use Rattle.grib_base.specs.declared.fault.Fault.{Fault}
use Rattle.grib_base.specs.declared.fault.Reason.TheVariants.{FirstValueSign}
use Rattle.grib_base.specs.Rules.{refusal}
use Rattle.grib_packing.specs.Differences.{Descriptors, NoNumber}
use Rattle.grib_complex_reading.specs.declared.noted.Told.{Told}
use Rattle.grib_complex_reading.specs.declared.representation.Complex.{Complex}
use Rattle.grib_complex_reading.specs.Told.{Telling, Plainly, After}

-- the j-th descriptor, from 0
abbrev pub descriptor_at : ℕ → List ℕ → ℕ → ℕ
descriptor_at extra s7 j = octets s7 (6 + j * extra) (6 + (j + 1) * extra - 1)

-- whether the top bit of the j-th first value is set
abbrev pub is_signed_at : ℕ → ℕ → List ℕ → ℕ → Bool
is_signed_at order extra s7 j = nat_lt j order && nat_lt 0 extra && nat_lt 127 (octets s7 (6 + j * extra) (6 + j * extra))

-- what codes of this order are read with; only order 2 has a second first value
abbrev pub descriptors_by : ℕ → ℕ → List ℕ → Descriptors
descriptors_by order extra s7 = record {
  order = order;
  first = pos (descriptor_at extra s7 0);
  second = cond (order == 2) (pos (descriptor_at extra s7 1)) (pos 0);
  minimum = signed_octets s7 (6 + order * extra) (6 + (order + 1) * extra - 1);
}

-- what the first code is told with
abbrev pub telling_by : ℕ → ℕ → List ℕ → Telling
telling_by order extra s7 = cond (order == 0) Plainly (After (descriptors_by order extra s7) NoNumber)

-- the numbers of the descriptors without sign, of the octets that begin with them
abbrev pub numbers_at : ℕ → ℕ → List ℕ → List ℕ
numbers_at order extra octets = plain (bits octets) (8 * extra) (order + 1)

-- what codes of this order are read with, by these numbers
abbrev pub descriptors_told : ℕ → ℕ → List ℕ → Descriptors
descriptors_told order extra numbers = record {
  order = order;
  first = pos (get_or numbers 0 0);
  second = cond (order == 2) (pos (get_or numbers 1 0)) (pos 0);
  minimum = signed (bits_of (8 * extra) (get_or numbers order 0));
}

-- whether the j-th first value is among these numbers, and its top bit is set
abbrev pub is_signed_number : ℕ → ℕ → List ℕ → ℕ → Bool
is_signed_number order extra numbers j = nat_lt j (length numbers) && nat_lt j order && nat_lt 0 extra && nat_lt 127 (get_or numbers j 0 / 2 ^ (8 * extra - 8))

-- the refusal of a section that begins at octet `start` of the message, for the first of them
abbrev pub sign_fault : ℕ → ℕ → ℕ → List ℕ → Option Fault
sign_fault start order extra numbers =
    cond (is_signed_number order extra numbers 0) (Some (refusal (start + 5) FirstValueSign 1))
    (cond (is_signed_number order extra numbers 1) (Some (refusal (start + 5 + extra) FirstValueSign 2)) None)

abbrev pub descriptors_in : Told → Descriptors
descriptors_in told = record { order = told.order; first = told.first; second = told.second; minimum = told.minimum }

-- what the first code is told with
abbrev pub telling_told : Told → Telling
telling_told told = cond (told.order == 0) Plainly (After (descriptors_in told) NoNumber)

-- These numbers tell it, and none is far.
pub record AreTold (order extra : ℕ) (numbers : List ℕ) (told : Told) : Type 0 where
  pub descriptors : descriptors_in told ≡ descriptors_told order extra numbers
  pub first : nat_abs told.first ≤ 2 ^ 31
  pub second : nat_abs told.second ≤ 2 ^ 31
  pub minimum : nat_abs told.minimum ≤ 2 ^ 31

-- the numbers of an accepted Section 5 of template 5.2 or 5.3
pub record IsAccepted (complex : Complex) : Type 0 where
  pub reference_bits : complex.layout.reference_bits ≤ 32
  pub width_bits : complex.layout.width_bits ≤ 32
  pub length_bits : complex.layout.length_bits ≤ 32
  pub extra : complex.extra ≤ 4
  pub order : ((complex.simple.template ≡ 2) × (complex.order ≡ 0)) ⊎ ((complex.simple.template ≡ 3) × ((complex.order ≡ 1) ⊎ (complex.order ≡ 2)))
