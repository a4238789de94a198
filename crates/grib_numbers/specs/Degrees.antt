-- Degrees of latitude and longitude as arguments write them: whole degrees up to 360, maybe a point with one to six digits
-- behind it, and `-` before what lies south or west. The value is in 10^-6 degree.
use Rattle.std.specs.Prelude.{ℕ, Bool, false, cond, ◌&&◌, ◌==◌, nat_le, nat_lt, ◌+◌, ◌-◌, ◌*◌, ◌^◌, ℤ, pos, neg_ℤ, int_le, Option, Some, None, option_map, List, length, get_or, drop}
use Rattle.std.specs.Int.{is_in_range}
use Rattle.std.specs.List.{list_any, before_first, after_first}
use Rattle.std.specs.Option.{option_and_then, option_map_or}
use Rattle.std.specs.Str.{all_ascii_digits}
use Rattle.grib_numbers.specs.Numbers.{number, is_between}

abbrev pub is_dot : ℕ → Bool
is_dot octet = octet == 46

-- the whole degrees of a magnitude
abbrev pub whole_of : List ℕ → Option ℕ
whole_of text = cond (is_between 0 360 text) (Some (number text)) None

-- whether these are one to six digits
abbrev pub is_fraction : List ℕ → Bool
is_fraction text = all_ascii_digits text && (nat_lt 0 (length text) && nat_le (length text) 6)

-- whether a text begins with a digit
abbrev pub begins_with_digit : List ℕ → Bool
begins_with_digit text = is_in_range 48 57 (get_or text 0 0)

-- the digits behind a point, as 10^-6 degree
abbrev pub fraction_of : List ℕ → Option ℕ
fraction_of text = cond (is_fraction text) (Some (number text * 10 ^ (6 - length text))) None

-- whole degrees with a fraction
abbrev pub joined : Option ℕ → Option ℕ → Option ℕ
joined whole fraction = option_and_then (λ w. option_map (λ f. w * 1000000 + f) fraction) whole

abbrev pub magnitude_of : List ℕ → Option ℕ
magnitude_of text =
    cond (list_any is_dot text) (joined (whole_of (before_first is_dot text)) (fraction_of (after_first is_dot text)))
    (option_map (λ w. w * 1000000) (whole_of text))

abbrev pub degrees_of : List ℕ → Option ℤ
degrees_of text =
    cond (get_or text 0 0 == 45) (option_map (λ m. neg_ℤ (pos m)) (magnitude_of (drop 1 text)))
    (option_map (λ m. pos m) (magnitude_of text))

-- whether a text writes degrees from `least` to `most`, in 10^-6 degree
abbrev pub lies_between : ℤ → ℤ → ℤ → Bool
lies_between least most degrees = int_le least degrees && int_le degrees most

abbrev pub are_degrees : ℤ → ℤ → List ℕ → Bool
are_degrees least most text = option_map_or (lies_between least most) (degrees_of text) false
