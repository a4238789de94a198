-- Bits, numbers and signs (WMO-No. 306, Volume I.2, FM 92 GRIB: octets and bits are numbered from the
-- left, bit 1 of an octet is its most significant; regulation 92.1.5: a negative number has its first
-- bit set).
use Rattle.std.specs.Prelude.{ℕ, zero, suc, ◌+◌, ◌-◌, ◌*◌, ◌/◌, ◌%◌, ◌^◌, Bool, true, false, List, [], ◌∷◌, ◌++◌, length, ℤ, pos, neg_ℤ, ◌==◌}

-- the last `width` binary digits of a number, the most significant first
abbrev pub bits_of : ℕ → ℕ → List Bool
bits_of zero n = []
bits_of (suc width) n = (n / 2 ^ width % 2 == 1) ∷ bits_of width n

-- the bits of octets, eight for each
abbrev pub bits : List ℕ → List Bool
bits [] = []
bits (octet ∷ octets) = bits_of 8 octet ++ bits octets

-- bit n of an octet, bit 1 being the most significant
abbrev pub bit : ℕ → ℕ → Bool
bit n octet = octet / 2 ^ (8 - n) % 2 == 1

-- what a bit counts
abbrev pub digit : Bool → ℕ
digit false = 0
digit true = 1

-- the number of some bits, 0 for none: the first counts 2 to the number of those after it
abbrev pub num : List Bool → ℕ
num [] = 0
num (bit ∷ rest) = digit bit * 2 ^ length rest + num rest

-- a number with sign: the bits after the first are the magnitude, and a first bit of 1 makes it
-- negative; so a set sign with magnitude 0 is 0
abbrev pub signed : List Bool → ℤ
signed [] = pos 0
signed (false ∷ magnitude) = pos (num magnitude)
signed (true ∷ magnitude) = neg_ℤ (pos (num magnitude))
