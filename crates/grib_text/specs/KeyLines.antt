-- The lines that `keys` prints, with their newline (10).
use Rattle.std.specs.Prelude.{ℕ, Option, Some, None, List, [], ◌∷◌, ◌++◌, codes}
use Rattle.std.specs.Fmt.{decimal, signed_decimal}
use Rattle.grib_keys.specs.declared.key.Key.{Key}
use Rattle.grib_keys.specs.declared.condition.Value.{Value}
use Rattle.grib_keys.specs.declared.condition.Change.{Change}
use Rattle.grib_keys.specs.Keys.{keys}
use Rattle.grib_keys.specs.Words.{word_of}
use Rattle.grib_select.specs.Values.{key_value_of}
use Rattle.grib_keys.specs.declared.key1.Key1.{Key1}
use Rattle.grib1_sections.specs.Keys.{number1_of}
use Rattle.grib_keys.specs.Keys1.{name1_of, keys1}

abbrev pub change : Key → Value → Change
change key value = record { key = key; value = value }

-- the word of a key behind a space, nothing where the key has no value
abbrev pub word_text : Key → Option Value → List ℕ
word_text key None = []
word_text key (Some value) = codes " " ++ word_of (change key value)

-- the words of some keys of field i
abbrev pub words_text : List ℕ → ℕ → List Key → List ℕ
words_text message i [] = []
words_text message i (key ∷ keys) = word_text key (key_value_of message i key) ++ words_text message i keys

-- of field i of message m, of edition 2: each key that the field has; without the newline and with it
abbrev pub keys_text : List ℕ → ℕ → ℕ → List ℕ
keys_text message m i = decimal m ++ codes "." ++ decimal i ++ codes " ed=2" ++ words_text message i keys

abbrev pub keys_line : List ℕ → ℕ → ℕ → List ℕ
keys_line message m i = keys_text message m i ++ 10 ∷ []

-- a number of Section 1 behind a space and its name
abbrev pub number_text : List ℕ → Key1 → List ℕ
number_text message key = codes " " ++ (name1_of key ++ (codes "=" ++ signed_decimal (number1_of message key)))

-- some numbers of Section 1
abbrev pub numbers_text : List ℕ → List Key1 → List ℕ
numbers_text message [] = []
numbers_text message (key ∷ keys) = number_text message key ++ numbers_text message keys

-- of message m, of edition 1: the numbers of Section 1; without the newline and with it
abbrev pub keys_text1 : List ℕ → ℕ → List ℕ
keys_text1 message m = decimal m ++ codes ".1 ed=1" ++ numbers_text message keys1

abbrev pub keys_line1 : List ℕ → ℕ → List ℕ
keys_line1 message m = keys_text1 message m ++ 10 ∷ []
