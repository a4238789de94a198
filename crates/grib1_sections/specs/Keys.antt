-- The numbers of Section 1, the product definition section (WMO-No. 306, Volume I.2, FM 92 GRIB edition 1), by their
-- keys.
use Rattle.std.specs.Prelude.{ℕ, List, ℤ, pos}
use Rattle.grib_bits.specs.Bits.{bits_of, signed}
use Rattle.grib_bits.specs.Octets.{octets}
use Rattle.grib_keys.specs.declared.key1.Key1.{Key1}
use Rattle.grib_keys.specs.declared.key1.Key1.TheVariants.{DecimalScale}
use Rattle.grib_keys.specs.Keys1.{place_of}
use Rattle.grib1_sections.specs.Acceptance.{identification}

-- the number of a Section 1
abbrev pub key_in : List ℕ → Key1 → ℕ
key_in s1 key = let place = place_of key in octets s1 place.first place.last

-- the number of a message
abbrev pub key1_of : List ℕ → Key1 → ℕ
key1_of message key = key_in (identification message) key

-- the same as it is printed: the decimal scale factor alone has a sign
abbrev pub number1_of : List ℕ → Key1 → ℤ
number1_of message DecimalScale = signed (bits_of 16 (key1_of message DecimalScale))
number1_of message key = pos (key1_of message key)
