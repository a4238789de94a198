-- What was found at the front of bits.
use Rattle.std.specs.Prelude.{◌≡◌, ℕ, ◌≤◌, List, Bool, Option, Some, None, length, take}
use Rattle.grib_bits.specs.Bits.{num}
use Rattle.grib_coding.specs.Items.{joined}
use Rattle.grib_coding.specs.Reading.{Front, Ended, Found, front_list, front_number}
use Rattle.grib_block_reading.specs.declared.bits_left.Ahead.{Ahead}

-- something and the bits behind it, or that the bits ended
abbrev pub front_of : {A : Type 0} → Option A → List Bool → Front A
front_of None rest = Ended
front_of (Some x) rest = Found x rest

-- The low bits of codes were found, and these are the codes from what each is divided by 2 ^ k.
pub record LowFound (k : ℕ) (bits : List Bool) (high now : List ℕ) (rest : List Bool) : Type 0 where
  pub low : List ℕ
  pub found : front_list (front_number k) (length high) bits ≡ Found low rest
  pub codes : now ≡ joined k high low

-- A word has the number of the first of the bits that are left, so many of them.
pub record IsAhead (ahead : Ahead) (left : List Bool) : Type 0 where
  pub within : ahead.count ≤ length left
  pub few : ahead.count ≤ 64
  pub is : ahead.word ≡ num (take ahead.count left)
