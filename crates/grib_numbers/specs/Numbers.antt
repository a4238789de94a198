-- Numbers as arguments write them.
use Rattle.std.specs.Prelude.{ℕ, Bool, cond, ◌&&◌, ◌||◌, ◌==◌, nat_le, ◌+◌, ◌-◌, ◌*◌, ◌^◌, ℤ, pos, neg_ℤ, Option, Some, None, List, [], ◌∷◌, get_or, drop, codes}
use Rattle.std.specs.Int.{is_in_range}
use Rattle.std.specs.Option.{option_or}
use Rattle.std.specs.Str.{bytes_eq, all_ascii_digits}

-- the number that digits write behind those of n, the most significant first
abbrev pub number_on : ℕ → List ℕ → ℕ
number_on n [] = n
number_on n (digit ∷ digits) = number_on (n * 10 + (digit - 48)) digits

abbrev pub number : List ℕ → ℕ
number digits = number_on 0 digits

-- whether a text begins with a digit 1 to 9
abbrev pub begins_from_one : List ℕ → Bool
begins_from_one text = is_in_range 49 57 (get_or text 0 0)

-- `0`, or a digit 1 to 9 followed by digits
abbrev pub is_number : List ℕ → Bool
is_number text = bytes_eq text (codes "0") || (begins_from_one text && all_ascii_digits text)

-- a number from `least` to `most`
abbrev pub is_between : ℕ → ℕ → List ℕ → Bool
is_between least most text = is_number text && (nat_le least (number text) && nat_le (number text) most)

-- a number that 64 bits with sign hold
abbrev pub from_zero : List ℕ → Option ℤ
from_zero text = cond (is_between 0 (2 ^ 63 - 1) text) (Some (pos (number text))) None

-- `-` before a number that is not 0
abbrev pub below_zero : List ℕ → Option ℤ
below_zero text =
    cond ((get_or text 0 0 == 45) && is_between 1 (2 ^ 63) (drop 1 text)) (Some (neg_ℤ (pos (number (drop 1 text))))) None

-- a number with sign
abbrev pub signed_number : List ℕ → Option ℤ
signed_number text = option_or (from_zero text) (below_zero text)
