-- Numbers and sections as they are written (WMO-No. 306, Volume I.2, FM 92 GRIB).
use Rattle.std.specs.Prelude.{◌≡◌, ℕ, ◌+◌, ◌*◌, ◌<◌, List, [], ◌∷◌, ◌++◌, All, length}
use Rattle.std.specs.Int.{bytes_high_first}
use Rattle.grib_bits.specs.Bits.{bits as bits_in}
use Rattle.grib_bits.specs.Written.{Written}
use Rattle.grib_bits.specs.declared.adding.Number.{Number}
use Rattle.grib_bits.specs.declared.adding.Number.TheVariants.{One, Two, Three, Four}

-- a number as n octets, the first the most significant
abbrev pub octets_of : ℕ → ℕ → List ℕ
octets_of n value = bytes_high_first n value

abbrev pub number_octets : Number → List ℕ
number_octets (One value) = octets_of 1 value
number_octets (Two value) = octets_of 2 value
number_octets (Three value) = octets_of 3 value
number_octets (Four value) = octets_of 4 value

-- numbers one after another
abbrev pub all_octets : List Number → List ℕ
all_octets [] = []
all_octets (number ∷ numbers) = number_octets number ++ all_octets numbers

-- missing, in one octet, in two and in four: all ones
abbrev pub missing_1 : ℕ
missing_1 = 255

abbrev pub missing_2 : ℕ
missing_2 = 65535

abbrev pub missing_4 : ℕ
missing_4 = 4294967295

-- octets 1-4 of a section of edition 2 are its length in octets, octet 5 is its number: those of a section with
-- this number of octets behind them, and the section with these contents
abbrev pub section_head : ℕ → ℕ → List ℕ
section_head number contents = octets_of 4 (5 + contents) ++ number ∷ []

abbrev pub section_of : ℕ → List ℕ → List ℕ
section_of number contents = octets_of 4 (5 + length contents) ++ number ∷ contents

-- octets 1-3 of a section of edition 1 are its length in octets
abbrev pub section1_of : List ℕ → List ℕ
section1_of contents = octets_of 3 (3 + length contents) ++ contents

-- these octets, each below 256, were written behind what stood there, into memory that was spare
pub record AddsOctets (before now : Written) (octets : List ℕ) : Type 0 where
  pub small : All (λ octet. octet < 256) octets
  pub bits : now.bits ≡ before.bits ++ bits_in octets
  pub spare : now.spare + 8 * length octets ≡ before.spare
