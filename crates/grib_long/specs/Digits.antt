-- Numbers by their digits to base 2 ^ 32.
use Rattle.std.specs.Prelude.{ℕ, ◌+◌, ◌*◌, ◌^◌, List, [], ◌∷◌, length}
use Rattle.grib_long.specs.declared.long.Long.{Long}

-- the first digit counts most
abbrev pub big : List ℕ → ℕ
big [] = 0
big (digit ∷ digits) = digit * 2 ^ (32 * length digits) + big digits

-- the first digit counts least
abbrev pub little : List ℕ → ℕ
little [] = 0
little (digit ∷ digits) = digit + 2 ^ 32 * little digits

-- the number
abbrev pub value : Long → ℕ
value number = big number.digits.items

-- how many digits it has
abbrev pub size : Long → ℕ
size number = length number.digits.items
