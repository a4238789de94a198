-- The values that a word of `filter` asks for: a list of values and ranges, with `,` between them.
use Rattle.std.specs.Prelude.{ℕ, Bool, cond, ◌==◌, int_le, ℤ, Option, Some, None, is_some, option_map, List, length, get_or, drop}
use Rattle.std.specs.List.{list_any, list_all, filter_map, before_first, after_first, slice_split}
use Rattle.std.specs.Option.{option_and_then}
use Rattle.grib_keys.specs.declared.wanted.Choice.{Choice}
use Rattle.grib_keys.specs.declared.wanted.Choice.TheVariants.{One, Between, From, UpTo}
use Rattle.grib_numbers.specs.Numbers.{signed_number}
use Rattle.grib_words.specs.Values.{key_value}

-- from one number to another that is not below it
abbrev pub between : ℤ → ℤ → Option Choice
between least most = cond (int_le least most) (Some (Between least most)) None

-- between two ends, of which one may be left out
abbrev pub range_of : List ℕ → List ℕ → Option Choice
range_of least most =
    cond (length least == 0) (option_map UpTo (signed_number most))
    (cond (length most == 0) (option_map From (signed_number least))
    (option_and_then (λ low. option_and_then (between low) (signed_number most)) (signed_number least)))

abbrev pub is_dot : ℕ → Bool
is_dot octet = octet == 46

-- what stands behind a `.` at the front
abbrev pub behind_dot : List ℕ → Option (List ℕ)
behind_dot text = cond (get_or text 0 0 == 46) (Some (drop 1 text)) None

-- `least..most`, or one value
abbrev pub choice_of : List ℕ → Option Choice
choice_of text =
    cond (list_any is_dot text)
    (option_and_then (range_of (before_first is_dot text)) (behind_dot (after_first is_dot text)))
    (option_map One (key_value text))

-- what stands between the commas
abbrev pub elements : List ℕ → List (List ℕ)
elements text = slice_split (λ octet. octet == 44) text

-- whether each element is a value or a range
abbrev pub is_test : List ℕ → Bool
is_test text = list_all (λ element. is_some (choice_of element)) (elements text)

-- all elements, where each is a value or a range
abbrev pub choices_of : List ℕ → Option (List Choice)
choices_of text = cond (is_test text) (Some (filter_map choice_of (elements text))) None
