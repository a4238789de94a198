-- Numbers of whole octets that stand one after another, each of `size` octets.
use Rattle.std.specs.Prelude.{ℕ, ◌+◌, ◌-◌, ◌*◌, List, [], ◌∷◌, ◌++◌, map}
use Rattle.std.specs.List.{range_with_len}
use Rattle.grib_bits.specs.Octets.{octets}
use Rattle.grib_bits.specs.Encoding.{octets_of}

-- the number with index k, from 0, where the first begins at octet `first`
abbrev pub number_at : List ℕ → ℕ → ℕ → ℕ → ℕ
number_at s first size k = octets s (first + k * size) (first + k * size + size - 1)

-- `count` such numbers
abbrev pub numbers_at : List ℕ → ℕ → ℕ → ℕ → List ℕ
numbers_at s first size count = map (number_at s first size) (range_with_len 0 count)

-- the octets of such numbers
abbrev pub numbers_octets : ℕ → List ℕ → List ℕ
numbers_octets size [] = []
numbers_octets size (number ∷ numbers) = octets_of size number ++ numbers_octets size numbers
