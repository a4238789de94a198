-- How many words are read, at a turn of the loop over them.
use Rattle.std.proofs.Common.{◌≡◌, ℕ, ◌+◌, ◌<◌, Bool, true, false, List, [], length, get_or, take, drop, map, refl, arith, add-one, drop-cons}
use Rattle.std.proofs.lemmas.List.{take_more, length-take-le, drop_all, take-map, get_or-map}
use Rattle.grib_words.specs.declared.command.Command.{Command}
use Rattle.grib_words.specs.Reading.{is_read, read_count}

-- the word at i as the loop reads it
pub at_turn : {X : Type 0} (text : X → List ℕ) (words : List X) (command : Command) (i : ℕ) (x : X) (word : List ℕ) (b : Bool) → i < length words
    → x ≡ get_or words i x → word ≡ text x → is_read command (map text (take i words)) word ≡ b
    → is_read command (take i (map text words)) (get_or (map text words) i []) ≡ b
at_turn text words command i x word b within here same is = rw (take-map text i words, get_or-map text words i x [] within, ← here, ← same) is

-- the word at i is read
pub goes_on : (command : Command) (words : List (List ℕ)) (i : ℕ) → i < length words → is_read command (take i words) (get_or words i []) ≡ true
    → read_count command (take i words) (drop i words) ≡ read_count command (take (i + 1) words) (drop (i + 1) words)
goes_on command words i within read = rw (take_more words i [] within, add-one, drop-cons words i [] within, read) refl

-- it is not
pub stops : (command : Command) (words : List (List ℕ)) (i : ℕ) → i < length words → is_read command (take i words) (get_or words i []) ≡ false
    → read_count command (take i words) (drop i words) ≡ i
stops command words i within unread = rw (drop-cons words i [] within, unread) (length-take-le i words (omega arith))

-- there is no word at i
pub ends : (command : Command) (words : List (List ℕ)) (i : ℕ) → i ≡ length words → read_count command (take i words) (drop i words) ≡ i
ends command words i e = rw (drop_all i words (omega arith)) (length-take-le i words (omega arith))
