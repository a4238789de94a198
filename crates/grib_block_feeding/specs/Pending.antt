-- What is read of a number that began.
use Rattle.std.specs.Prelude.{ℕ, ◌+◌, ◌*◌, ◌^◌, ◌<◌, ◌≤◌, min, List, Bool}
use Rattle.grib_coding.specs.Reading.{Front, Found, and_then, front_number, front_sequence}
use Rattle.grib_block_feeding.specs.declared.pending.Pending.{Pending}
use Rattle.grib_block_feeding.specs.declared.pending.Pending.TheVariants.{Bits, Sequence}

-- A count of more bits than a word can count is the greatest that it can. A code or a count that is so great is out of
-- range, as any greater one is.
abbrev pub saturated : ℕ → ℕ
saturated number = min number 18446744073709551615

-- the number that the next bits complete
abbrev pub front_pending : Pending → List Bool → Front ℕ
front_pending (Bits value left) bits = and_then (front_number left bits) (λ number rest. Found (value * 2 ^ left + number) rest)
front_pending (Sequence zeros) bits = and_then (front_sequence bits) (λ number rest. Found (saturated (zeros + number)) rest)

-- Bits are missing, and one more makes a number that fits.
abbrev pub IsSmall : Pending → Type 0
IsSmall (Bits value left) = (1 ≤ left) × (value < 9223372036854775808)
IsSmall (Sequence zeros) = zeros ≤ 18446744073709551615

-- A number of so many bits, some of which are missing.
abbrev pub IsNumber : ℕ → Pending → Type 0
IsNumber width (Bits value left) = (1 ≤ left) × ((value + 1) * 2 ^ left ≤ 2 ^ width)
IsNumber width (Sequence zeros) = ⊥

abbrev pub IsSequence : Pending → Type 0
IsSequence (Bits value left) = ⊥
IsSequence (Sequence zeros) = zeros ≤ 18446744073709551615
