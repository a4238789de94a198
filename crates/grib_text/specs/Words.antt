-- How numbers are printed.
use Rattle.std.specs.Prelude.{ℕ, ◌+◌, ◌-◌, ◌^◌, cond, Option, Some, None, List, ◌∷◌, ◌++◌, length, replicate, codes, ℤ, pos, negsuc, ◌==◌}
use Rattle.std.specs.Fmt.{decimal, signed_decimal}
use Rattle.grib_bits.specs.Bits.{bits_of, signed}

-- the digits of n, filled from the left with zeros (48) to at least `width` of them
abbrev pub filled_decimal : ℕ → ℕ → List ℕ
filled_decimal width n = replicate (width - length (decimal n)) 48 ++ decimal n

-- the digits of a number with sign: the `-` (45) of a negative number stands first, and counts
abbrev pub filled_signed_decimal : ℕ → ℤ → List ℕ
filled_signed_decimal width (pos n) = filled_decimal width n
filled_signed_decimal width (negsuc n) = 45 ∷ filled_decimal (width - 1) (n + 1)

-- a number of `width` bits with this value, which is missing where its bits are all ones
abbrev pub value_or_none : ℕ → ℕ → ℤ → Option ℤ
value_or_none width n value = cond (n == 2 ^ width - 1) None (Some value)

-- without sign, and with sign
abbrev pub number_or_none : ℕ → ℕ → Option ℤ
number_or_none width n = value_or_none width n (pos n)

abbrev pub signed_or_none : ℕ → ℕ → Option ℤ
signed_or_none width n = value_or_none width n (signed (bits_of width n))

-- a number that may be missing
abbrev pub text_or_missing : Option ℤ → List ℕ
text_or_missing None = codes "missing"
text_or_missing (Some z) = signed_decimal z
