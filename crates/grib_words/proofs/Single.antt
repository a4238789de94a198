-- A word that gives a key a value has neither a list nor a range nor a mark: as a condition it asks for this value.
use Rattle.std.proofs.Common.{◌≡◌, ◌⊎◌, ℕ, ◌-◌, ◌^◌, Bool, true, false, cond, ◌&&◌, ◌==◌, ℤ, Option, Some, None, option_map, List, [], ◌∷◌, get_or, drop, codes, refl, sym, ap, ◌∙◌, subst, All, inl, inr, rules, arith, tests, ⊎_elim}
use Rattle.std.specs.List.{list_any, find}
use Rattle.std.specs.Option.{option_and_then, option_or}
use Rattle.std.specs.Str.{bytes_eq, all_ascii_digits}
use Rattle.std.specs.Char.{is_ascii_digit}
use Rattle.std.proofs.lemmas.Bool.{cases_Bool}
use Rattle.std.proofs.lemmas.List.Elements.{All-nil, All-cons}
use Rattle.std.proofs.lemmas.List.Folds.{list_any_none}
use Rattle.std.proofs.lemmas.List.Splits.{slice_split_none}
use Rattle.std.proofs.lemmas.Slice.Eq.{bytes_eq-Decides}
use Rattle.grib_keys.specs.declared.key.Key.{Key}
use Rattle.grib_keys.specs.declared.key.Key.TheVariants.{Discipline}
use Rattle.grib_keys.specs.declared.condition.Value.{Value}
use Rattle.grib_keys.specs.declared.condition.Value.TheVariants.{Number}
use Rattle.grib_keys.specs.declared.condition.Change.{Change}
use Rattle.grib_keys.specs.declared.wanted.Choice.TheVariants.{One}
use Rattle.grib_keys.specs.Keys.{name_of, keys, key_named}
use Rattle.grib_keys.specs.declared.key1.Key1.{Key1}
use Rattle.grib_keys.specs.declared.key1.Key1.TheVariants.{Version}
use Rattle.grib_keys.specs.Keys1.{name1_of, keys1, key1_named}
use Rattle.grib1_select.specs.declared.condition.Change1.{Change1}
use Rattle.grib_numbers.specs.Numbers.{is_number, is_between, begins_from_one, from_zero, below_zero, signed_number}
use Rattle.grib_words.specs.Values.{key_value}
use Rattle.grib_words.specs.Choices.{is_dot, choice_of, elements, choices_of}
use Rattle.grib_words.specs.Reading.{name_in, value_in, is_marked, unmarked, asked_key, asked_key1}
use Rattle.grib_words.specs.Words.{change, change_of, change1, change1_of, wanted, wanted_of, wanted1, wanted1_of}

-- ---- the value

-- neither `,` nor `.`
abbrev IsPlain : ℕ → Type 0
IsPlain octet = ((octet == 44) ≡ false) × ((octet == 46) ≡ false)

both : (a b : Bool) → (a && b) ≡ true → (a ≡ true) × (b ≡ true)
both true b h = (refl, h)
both false b h = cc

plain_digit : (c : ℕ) → is_ascii_digit c ≡ true → IsPlain c
plain_digit c digit = (grind (arith, tests), grind (arith, tests))

plain_digits : (ds : List ℕ) → all_ascii_digits ds ≡ true → All IsPlain ds
plain_digits [] digits = All-nil IsPlain
plain_digits (c ∷ cs) digits =
    let parts = both (is_ascii_digit c) (all_ascii_digits cs) digits in
    All-cons IsPlain c cs (plain_digit c parts.0) (plain_digits cs parts.1)

zero_plain : (text : List ℕ) → bytes_eq text (codes "0") ≡ true → All IsPlain text
zero_plain text zero = subst (All IsPlain) (sym ((bytes_eq-Decides text (codes "0")).0 zero)) (plain_digits (codes "0") refl)

plain_number : (text : List ℕ) → is_number text ≡ true → All IsPlain text
plain_number text h =
    ⊎_elim (λ (zero : bytes_eq text (codes "0") ≡ true). zero_plain text zero)
    (λ (other : bytes_eq text (codes "0") ≡ false). plain_digits text (both (begins_from_one text) (all_ascii_digits text) (rw other at h)).1)
    (cases_Bool (bytes_eq text (codes "0")))

plain_between : (least most : ℕ) (text : List ℕ) → is_between least most text ≡ true → All IsPlain text
plain_between least most text h = plain_number text (both (is_number text) _ h).0

plain_below : (text : List ℕ) → ((get_or text 0 0 == 45) && is_between 1 (2 ^ 63) (drop 1 text)) ≡ true → All IsPlain text
plain_below [] h = All-nil IsPlain
plain_below (c ∷ cs) h =
    let parts = both (c == 45) (is_between 1 (2 ^ 63) cs) h in
    let minus : c ≡ 45 = search (rules, tests, parts.0) in
    All-cons IsPlain c cs (subst IsPlain (sym minus) (refl, refl)) (plain_between 1 (2 ^ 63) cs parts.1)

-- the number that a text writes is without sign or below zero
first_some : (first second : Option ℤ) (x : ℤ) → option_or first second ≡ Some x → (first ≡ Some x) ⊎ (second ≡ Some x)
first_some None second x e = inr e
first_some (Some y) second x e = inl e

given_if : (b : Bool) (y x : ℤ) → cond b (Some y) None ≡ Some x → b ≡ true
given_if true y x e = refl
given_if false y x e = let no : ⊥ = cc in absurd no

plain_signed : (text : List ℕ) (x : ℤ) → signed_number text ≡ Some x → All IsPlain text
plain_signed text x e =
    ⊎_elim (λ (here : from_zero text ≡ Some x). plain_between 0 (2 ^ 63 - 1) text (given_if _ _ x here))
    (λ (there : below_zero text ≡ Some x). plain_below text (given_if _ _ x there))
    (first_some (from_zero text) (below_zero text) x e)

some_inside : (o : Option ℤ) (value : Value) → option_map Number o ≡ Some value → (x : ℤ) × (o ≡ Some x)
some_inside None value e = let no : ⊥ = cc in absurd no
some_inside (Some x) value e = (x, refl)

plain_missing : All IsPlain (codes "missing")
plain_missing = search (rules, tests)

plain_value : (text : List ℕ) (value : Value) → key_value text ≡ Some value → All IsPlain text
plain_value text value e =
    ⊎_elim (λ (yes : bytes_eq text (codes "missing") ≡ true). subst (All IsPlain) (sym ((bytes_eq-Decides text (codes "missing")).0 yes)) plain_missing)
    (λ (other : bytes_eq text (codes "missing") ≡ false).
    let number = some_inside (signed_number text) value (rw other at e) in
    plain_signed text number.0 number.1)
    (cases_Bool (bytes_eq text (codes "missing")))

one_choice : (text : List ℕ) (value : Value) → key_value text ≡ Some value → choice_of text ≡ Some (One value)
one_choice text value e =
    let plain = plain_value text value e in
    let no_dot : list_any is_dot text ≡ false = list_any_none is_dot text (λ k d low. (plain k d low).1) in
    rw (no_dot, e) refl

one_element : (text : List ℕ) (value : Value) → key_value text ≡ Some value → elements text ≡ text ∷ []
one_element text value e = let plain = plain_value text value e in slice_split_none (λ octet. octet == 44) text (λ k d low. (plain k d low).0)

pub one_value : (text : List ℕ) (value : Value) → key_value text ≡ Some value → choices_of text ≡ Some (One value ∷ [])
one_value text value e = rw (one_element text value e) (rw (one_choice text value e) refl)

-- ---- the name

unmarked_name : (key : Key) → unmarked (name_of key) ≡ name_of key
unmarked_name Discipline = refl
unmarked_name key = refl

not_marked : (key : Key) → is_marked (name_of key) ≡ false
not_marked Discipline = refl
not_marked key = refl

found_passes : {X : Type 0} (p : X → Bool) (xs : List X) (x : X) → find p xs ≡ Some x → p x ≡ true
found_passes p [] x e = let no : ⊥ = cc in absurd no
found_passes p (y ∷ ys) x e =
    ⊎_elim (λ (here : p y ≡ true). (let is : Some y ≡ Some x = rw here at e in let same : y ≡ x = cc in subst (λ z. p z ≡ true) same here))
    (λ (other : p y ≡ false). found_passes p ys x (rw other at e))
    (cases_Bool (p y))

pub named : (name : List ℕ) (key : Key) → key_named name ≡ Some key → name_of key ≡ name
named name key e = (bytes_eq-Decides (name_of key) name).0 (found_passes (λ k. bytes_eq (name_of k) name) keys key e)

pub named1 : (name : List ℕ) (key : Key1) → key1_named name ≡ Some key → name1_of key ≡ name
named1 name key e = (bytes_eq-Decides (name1_of key) name).0 (found_passes (λ k. bytes_eq (name1_of k) name) keys1 key e)

asked_of : (name : List ℕ) (key : Key) → key_named name ≡ Some key → asked_key name ≡ Some key
asked_of name key e =
    let same = named name key e in
    ap key_named (ap unmarked (sym same) ∙ (unmarked_name key ∙ same)) ∙ e

unmarked_of : (name : List ℕ) (key : Key) → key_named name ≡ Some key → is_marked name ≡ false
unmarked_of name key e = ap is_marked (sym (named name key e)) ∙ not_marked key

-- ---- the word

key_there : (key : Option Key) (value : Option Value) (c : Change) → option_and_then (λ k. option_map (change k) value) key ≡ Some c
    → (key ≡ Some c.key) × (value ≡ Some c.value)
key_there None value c e = let no : ⊥ = cc in absurd no
key_there (Some key) None c e = let no : ⊥ = cc in absurd no
key_there (Some key) (Some value) c e =
    let same : change key value ≡ c = cc in
    (ap (λ (d : Change). Some d.key) same, ap (λ (d : Change). Some d.value) same)

pub asks_the_value : (word : List ℕ) (c : Change) → change_of word ≡ Some c → wanted_of word ≡ Some (wanted false c.key (One c.value ∷ []))
asks_the_value word c e =
    let parts = key_there (key_named (name_in word)) (key_value (value_in word)) c e in
    rw (asked_of (name_in word) c.key parts.0, unmarked_of (name_in word) c.key parts.0, one_value (value_in word) c.value parts.1) refl

-- ---- the same of keys of edition 1

-- a number is a value
number_value : (text : List ℕ) (x : ℤ) → signed_number text ≡ Some x → key_value text ≡ Some (Number x)
number_value text x e =
    ⊎_elim (λ (yes : bytes_eq text (codes "missing") ≡ true). let no : ⊥ = cc (sym (ap signed_number ((bytes_eq-Decides text (codes "missing")).0 yes)) ∙ e) in absurd no)
    (λ (other : bytes_eq text (codes "missing") ≡ false). rw (other, e) refl)
    (cases_Bool (bytes_eq text (codes "missing")))

unmarked_name1 : (key : Key1) → unmarked (name1_of key) ≡ name1_of key
unmarked_name1 Version = refl
unmarked_name1 key = refl

not_marked1 : (key : Key1) → is_marked (name1_of key) ≡ false
not_marked1 Version = refl
not_marked1 key = refl

asked1_of : (name : List ℕ) (key : Key1) → key1_named name ≡ Some key → asked_key1 name ≡ Some key
asked1_of name key e =
    let same = named1 name key e in
    ap key1_named (ap unmarked (sym same) ∙ (unmarked_name1 key ∙ same)) ∙ e

unmarked1_of : (name : List ℕ) (key : Key1) → key1_named name ≡ Some key → is_marked name ≡ false
unmarked1_of name key e = ap is_marked (sym (named1 name key e)) ∙ not_marked1 key

key1_there : (key : Option Key1) (value : Option ℤ) (c : Change1) → option_and_then (λ k. option_map (change1 k) value) key ≡ Some c
    → (key ≡ Some c.key) × (value ≡ Some c.value)
key1_there None value c e = let no : ⊥ = cc in absurd no
key1_there (Some key) None c e = let no : ⊥ = cc in absurd no
key1_there (Some key) (Some value) c e =
    let same : change1 key value ≡ c = cc in
    (ap (λ (d : Change1). Some d.key) same, ap (λ (d : Change1). Some d.value) same)

pub asks_the_number : (word : List ℕ) (c : Change1) → change1_of word ≡ Some c → wanted1_of word ≡ Some (wanted1 false c.key (One (Number c.value) ∷ []))
asks_the_number word c e =
    let parts = key1_there (key1_named (name_in word)) (signed_number (value_in word)) c e in
    rw (asked1_of (name_in word) c.key parts.0, unmarked1_of (name_in word) c.key parts.0, one_value (value_in word) (Number c.value) (number_value (value_in word) c.value parts.1)) refl
