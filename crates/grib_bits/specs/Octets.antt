-- Octets of a section or a message as the manual counts them, from 1 (WMO-No. 306, Volume I.2, FM 92).
use Rattle.std.specs.Prelude.{◌≡◌, ℕ, ◌+◌, ◌-◌, ◌*◌, ◌≤◌, List, [], ◌∷◌, length, take, drop, ℤ}
use Rattle.grib_bits.specs.Bits.{bits, signed}

-- the number n followed by some octets, the first the most significant
abbrev pub num_on : ℕ → List ℕ → ℕ
num_on n [] = n
num_on n (octet ∷ octets) = num_on (n * 256 + octet) octets

-- the octets from `first` to `last`
abbrev pub octet_list : List ℕ → ℕ → ℕ → List ℕ
octet_list section first last = take (last + 1 - first) (drop (first - 1) section)

-- the number that the octets `first` to `last` make
abbrev pub octets : List ℕ → ℕ → ℕ → ℕ
octets section first last = num_on 0 (octet_list section first last)

-- the number with sign that they make
abbrev pub signed_octets : List ℕ → ℕ → ℕ → ℤ
signed_octets section first last = signed (bits (octet_list section first last))

-- Octets that are a section of edition 2 with this number: octets 1-4 are its length, octet 5 is its number.
pub record StatesItself (number : ℕ) (section : List ℕ) : Type 0 where
  pub length_stands : octets section 1 4 ≡ length section
  pub least : 5 ≤ length section
  pub number_stands : octets section 5 5 ≡ number
