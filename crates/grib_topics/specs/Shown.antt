-- A text as it stands in one line.
use Rattle.std.specs.Prelude.{ℕ, ◌/◌, ◌%◌, cond, List, [], ◌∷◌, ◌++◌, map, codes}
use Rattle.std.specs.List.{concat}
use Rattle.std.specs.Char.{is_control, digit_char, encode_utf8}
use Rattle.std.specs.Str.{chars}

-- `\x` and the two digits of a number below 256, to the base of 16
abbrev pub escape : ℕ → List ℕ
escape c = codes "\\x" ++ digit_char (c / 16) ∷ digit_char (c % 16) ∷ []

-- a control character by its number, any other as it is
abbrev pub shown_char : ℕ → List ℕ
shown_char c = cond (is_control c) (escape c) (encode_utf8 c)

-- a text with its control characters by their numbers
unfoldable pub shown : List ℕ → List ℕ
shown text = concat (map shown_char (chars text))
