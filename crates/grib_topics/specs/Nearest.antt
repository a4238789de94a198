-- The name that is nearest to a word.
use Rattle.std.specs.Prelude.{ℕ, ◌&&◌, ◌==◌, cond, nat_lt, nat_eq, List, [], length, map, drop}
use Rattle.std.specs.List.{fold}
use Rattle.std.specs.Str.{chars}
use Rattle.std.specs.Char.{to_ascii_lowercase}
use Rattle.strsim.specs.Edits.{levenshtein_row}
use Rattle.grib_topics.specs.Elsewhere.{command_for, keys_for}
use Rattle.grib_topics.specs.Topics as topics
use Rattle.grib_topics.specs.Topics.{command_texts, key_texts, first_key_texts}

abbrev pub first_word : List ℕ → List ℕ
first_word text = topics.first_word text

-- how many letters are to be changed, put in or left out, whatever their case
abbrev pub changes : List ℕ → List ℕ → ℕ
changes word name =
    let here = chars (map to_ascii_lowercase word) in
    let there = chars (map to_ascii_lowercase name) in
    levenshtein_row nat_eq here there (length there)

-- a name, and how many letters a word differs from it
pub record Seen : Type 0 where
  pub name : List ℕ
  pub changes : ℕ

abbrev pub seen : List ℕ → ℕ → Seen
seen name changes = record { name = name; changes = changes }

-- the nearer one of two names: the first where they are as near, or where as many letters change as the second has
abbrev pub nearer : List ℕ → Seen → List ℕ → Seen
nearer word best name =
    let count = changes word name in
    cond (nat_lt count best.changes && nat_lt count (length name)) (seen name count) best

-- nothing yet: a name counts where no more than three letters change
abbrev pub none : Seen
none = seen [] 4

-- the nearest to a word of this name and the first words of these texts, the first where several are as near
unfoldable pub nearest : List ℕ → Seen → List (List ℕ) → Seen
nearest word best texts = fold (nearer word) best (map first_word texts)

-- the name of a key that is nearest to a word: of edition 2, or of edition 1 where that is nearer
unfoldable pub nearest_name : List ℕ → List ℕ
nearest_name word = (nearest word (nearest word none (drop 1 key_texts)) (drop 1 first_key_texts)).name

-- some keys, or where there are none, the one whose name is nearest
abbrev pub or_nearest : List ℕ → List ℕ → List ℕ
or_nearest keys word = cond (length keys == 0) (nearest_name word) keys

unfoldable pub nearest_key : List ℕ → List ℕ
nearest_key word = or_nearest (keys_for word) word

-- the name of the command that is nearest to a word
unfoldable pub nearest_name_of_command : List ℕ → List ℕ
nearest_name_of_command word = (nearest word none command_texts).name

-- the command that does what other programs have by this name, or where there is none, the one whose name is nearest
unfoldable pub nearest_command : List ℕ → List ℕ
nearest_command word = cond (length (command_for word) == 0) (nearest_name_of_command word) (command_for word)
