-- The values that the words of a command line may have.
use Rattle.std.specs.Prelude.{ℕ, Bool, cond, nat_lt, Option, Some, option_map, List, length, codes}
use Rattle.std.specs.Str.{bytes_eq}
use Rattle.grib_keys.specs.declared.condition.Value.{Value}
use Rattle.grib_keys.specs.declared.condition.Value.TheVariants.{Number, Missing}
use Rattle.grib_numbers.specs.Numbers.{signed_number}

abbrev pub is_not_empty : List ℕ → Bool
is_not_empty text = nat_lt 0 (length text)

-- the value of a key: `missing`, or a number with sign
abbrev pub key_value : List ℕ → Option Value
key_value text = cond (bytes_eq text (codes "missing")) (Some Missing) (option_map Number (signed_number text))
