-- Words of a command line as lists, and their `=`.
use Rattle.std.proofs.Common.{◌≡◌, ◌<◌, ℕ, ◌+◌, Bool, true, false, cond, not, ◌||◌, Option, Some, None, option_map, ℤ, List, [], ◌∷◌, length, map, refl, sym, ap, arith}
use Rattle.std.specs.List.{list_any, position_or_len, filter_map}
use Rattle.std.specs.Option.{option_and_then}
use Rattle.std.proofs.lemmas.List.{drop_all}
use Rattle.grib_keys.specs.declared.key.Key.{Key}
use Rattle.grib_keys.specs.declared.condition.Value.{Value}
use Rattle.grib_keys.specs.Keys.{key_named}
use Rattle.grib_words.specs.declared.command.Command.{Command}
use Rattle.grib_keys.specs.declared.key1.Key1.{Key1}
use Rattle.grib_keys.specs.Keys1.{key1_named}
use Rattle.grib_numbers.specs.Numbers.{signed_number}
use Rattle.grib_numbers.proofs.Places.{no_place}
use Rattle.grib_words.specs.Values.{key_value}
use Rattle.grib_words.specs.Reading.{is_equals, has_equals, name_in, value_in, is_named, is_on_key, is_asking, is_other, is_of_first, is_read, asked_key, asked_key1, is_marked}
use Rattle.grib_words.specs.Words.{change, change_of, change1, change1_of, wanted, wanted_of, wanted1, wanted1_of}

pub list_any-map : {X Y : Type 0} (p : Y → Bool) (f : X → Y) (xs : List X) → list_any p (map f xs) ≡ list_any (λ x. p (f x)) xs
list_any-map p f [] = refl
list_any-map p f (x ∷ xs) = ap (λ b. p (f x) || b) (list_any-map p f xs)

-- a word whose first `=` is at its end has none
pub lacks_equals : (word : List ℕ) → position_or_len is_equals word ≡ length word → has_equals word ≡ false
lacks_equals word e = no_place is_equals word e

within_first : (b : Bool) (n len : ℕ) (later : Bool) → cond (not b) (1 + n) 0 < 1 + len → (n < len → later ≡ true) → (b || later) ≡ true
within_first true n len later e next = refl
within_first false n len later e next = next (omega (arith, e))

any_place : (p : ℕ → Bool) (xs : List ℕ) → position_or_len p xs < length xs → list_any p xs ≡ true
any_place p [] e = absurd (omega (arith, e))
any_place p (x ∷ xs) e = within_first (p x) (position_or_len p xs) (length xs) (list_any p xs) (omega (arith, e)) (any_place p xs)

-- and one whose first `=` is before its end has one
pub stands_equals : (word : List ℕ) → position_or_len is_equals word < length word → has_equals word ≡ true
stands_equals word e = any_place is_equals word e

pub unnamed : (name word : List ℕ) → position_or_len is_equals word ≡ length word → false ≡ is_named name word
unnamed name word e = rw (lacks_equals word e) refl

pub keyless : (word : List ℕ) → position_or_len is_equals word ≡ length word → false ≡ is_on_key word
keyless word e = rw (lacks_equals word e) refl

pub unasking : (word : List ℕ) → position_or_len is_equals word ≡ length word → false ≡ is_asking word
unasking word e = rw (lacks_equals word e) refl

pub not_first : (word : List ℕ) → position_or_len is_equals word ≡ length word → false ≡ is_of_first word
not_first word e = rw (lacks_equals word e) refl

pub not_other : (name word : List ℕ) → position_or_len is_equals word ≡ length word → false ≡ is_other name word
not_other name word e = rw (lacks_equals word e) refl

pub unread : (command : Command) (earlier : List (List ℕ)) (word : List ℕ) → position_or_len is_equals word ≡ length word → false ≡ is_read command earlier word
unread command earlier word e = rw (lacks_equals word e) refl

-- ---- changes

no_value : (word : List ℕ) → position_or_len is_equals word ≡ length word → value_in word ≡ []
no_value word e = drop_all (position_or_len is_equals word + 1) word (omega (arith, e))

none_without : (key : Option Key) → option_and_then (λ key. option_map (change key) (key_value [])) key ≡ None
none_without None = refl
none_without (Some key) = refl

pub no_change : (word : List ℕ) → position_or_len is_equals word ≡ length word → None ≡ change_of word
no_change word e = rw (no_value word e) (sym (none_without (key_named (name_in word))))

pub change_read : (word : List ℕ) (key : Key) (value : Value) → key_named (name_in word) ≡ Some key → key_value (value_in word) ≡ Some value
    → Some (change key value) ≡ change_of word
change_read word key value named valued = rw (named, valued) refl

numberless : (key : Option Key1) → option_and_then (λ key. option_map (change1 key) (signed_number [])) key ≡ None
numberless None = refl
numberless (Some key) = refl

pub no_change1 : (word : List ℕ) → position_or_len is_equals word ≡ length word → None ≡ change1_of word
no_change1 word e = rw (no_value word e) (sym (numberless (key1_named (name_in word))))

pub change1_read : (word : List ℕ) (key : Key1) (value : ℤ) → key1_named (name_in word) ≡ Some key → signed_number (value_in word) ≡ Some value
    → Some (change1 key value) ≡ change1_of word
change1_read word key value named valued = rw (named, valued) refl

nothing_without : (key : Option Key) (marked : Bool) → option_and_then (λ key. option_map (wanted marked key) None) key ≡ None
nothing_without None marked = refl
nothing_without (Some key) marked = refl

pub nothing_asked : (word : List ℕ) → position_or_len is_equals word ≡ length word → None ≡ wanted_of word
nothing_asked word e = rw (no_value word e) (sym (nothing_without (asked_key (name_in word)) (is_marked (name_in word))))

nothing_without1 : (key : Option Key1) (marked : Bool) → option_and_then (λ key. option_map (wanted1 marked key) None) key ≡ None
nothing_without1 None marked = refl
nothing_without1 (Some key) marked = refl

pub nothing_asked1 : (word : List ℕ) → position_or_len is_equals word ≡ length word → None ≡ wanted1_of word
nothing_asked1 word e = rw (no_value word e) (sym (nothing_without1 (asked_key1 (name_in word)) (is_marked (name_in word))))

pub filter_map-map : {X Y Z : Type 0} (h : Y → Option Z) (f : X → Y) (xs : List X) → filter_map h (map f xs) ≡ filter_map (λ x. h (f x)) xs
filter_map-map h f [] = refl
filter_map-map h f (x ∷ xs) = rw (filter_map-map h f xs) refl
