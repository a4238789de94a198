-- A key with a value, as it is printed, reads to the change, and as a condition to what the field fulfils.
use Rattle.std.proofs.Common.{◌≡◌, ℕ, zero, suc, ◌-◌, ◌^◌, ◌<◌, ◌≤◌, Bool, true, false, cond, ◌&&◌, ◌||◌, nat_le, ℤ, pos, negsuc, neg_ℤ, nat_abs, Option, Some, None, List, [], ◌∷◌, ◌++◌, length, codes, refl, ap, ap₂, ◌∙◌, rules, arith, tests}
use Rattle.std.specs.Prelude.{option_map, get_or}
use Rattle.std.specs.Fmt.{decimal, signed_decimal}
use Rattle.std.specs.List.{cons_option}
use Rattle.std.specs.Option.{option_and_then, option_or, option_map_or}
use Rattle.std.specs.Str.{bytes_eq, all_ascii_digits}
use Rattle.std.specs.Cmp.Derive.{both_true}
use Rattle.std.proofs.lemmas.Fmt.{decimal_digit, decimal_nonempty, first_decimal, digits_decimal, digits_value-decimal}
use Rattle.std.specs.Prelude.{All}
use Rattle.grib_keys.specs.declared.wanted.Choice.TheVariants.{One}
use Rattle.grib_keys.specs.declared.wanted.Wanted.{Wanted}
use Rattle.grib_base.specs.declared.profile.Profile.TheVariants.{Open}
use Rattle.grib_keys.specs.declared.key.Key.{Key}
use Rattle.grib_keys.specs.declared.key.Key.TheVariants.{Discipline}
use Rattle.grib_keys.specs.declared.condition.Value.{Value}
use Rattle.grib_keys.specs.declared.condition.Value.TheVariants.{Number, Missing}
use Rattle.grib_keys.specs.Keys.{name_of, key_named}
use Rattle.grib_keys.specs.Words.{value_text, word_of}
use Rattle.grib_numbers.specs.Numbers.{number, begins_from_one, is_number, is_between, from_zero, below_zero}
use Rattle.grib_words.specs.Values.{key_value}
use Rattle.grib_words.specs.Reading.{name_in, value_in}
use Rattle.grib_words.specs.Words.{change, change_of, test_of, wanted, wanted_of, conditions_of}
use Rattle.grib_words.proofs.Single.{asks_the_value}
use Rattle.grib_select.specs.Bounds.{IsWithin64}
use Rattle.grib_select.specs.Values.{key_value_of, fulfils_all}
use Rattle.grib_keys.specs.Wanted.{same_value, holds}
use Rattle.grib_keys.proofs.Chosen.{same_decides}
use Rattle.grib_select.proofs.Bounded.{values_within}
use Rattle.grib2_message.specs.Fields.{field_count}
use Rattle.grib2_message.specs.Message.{IsAnyMessage}
use Rattle.grib_numbers.proofs.Parsed.{own}

-- ---- a printed number is a number

begins : (ds : List ℕ) → all_ascii_digits ds ≡ true → 0 < length ds → 48 < get_or ds 0 0 → begins_from_one ds ≡ true
begins [] digits some first = absurd (omega arith)
begins (c ∷ cs) digits some first = search (rules, tests)

or_second : (a b : Bool) → b ≡ true → (a || b) ≡ true
or_second true b e = refl
or_second false b e = e

is_numeral : (n : ℕ) → n < 2 ^ 64 → is_number (decimal n) ≡ true
is_numeral zero low = ap is_number (decimal_digit 0 (omega arith))
is_numeral (suc m) low =
    let n = suc m in
    let digits = digits_decimal own n low in
    or_second (bytes_eq (decimal n) (codes "0")) (begins_from_one (decimal n) && all_ascii_digits (decimal n))
    (both_true (begins (decimal n) digits (decimal_nonempty n low) (first_decimal n (omega arith) low)) digits)

numbered : (least most n : ℕ) → n < 2 ^ 64 → least ≤ n → n ≤ most → is_between least most (decimal n) ≡ true
numbered least most n low above below =
    let value : number (decimal n) ≡ n = digits_value-decimal own n low in
    let over : nat_le least n ≡ true = search (rules, tests) in
    let under : nat_le n most ≡ true = search (rules, tests) in
    both_true (is_numeral n low) (ap (λ (k : ℕ). nat_le least k && nat_le k most) value ∙ both_true over under)

from_decimal : (n : ℕ) → n < 2 ^ 63 → from_zero (decimal n) ≡ Some (pos n)
from_decimal n low =
    ap₂ (λ (b : Bool) (k : ℕ). cond b (Some (pos k)) None) (numbered 0 (2 ^ 63 - 1) n (omega arith) (omega arith) (omega arith)) (digits_value-decimal own n (omega arith))

below_decimal : (m : ℕ) → suc m < 2 ^ 63 → below_zero (45 ∷ decimal (suc m)) ≡ Some (negsuc m)
below_decimal m low =
    ap₂ (λ (b : Bool) (k : ℕ). cond b (Some (neg_ℤ (pos k))) None) (numbered 1 (2 ^ 63) (suc m) (omega arith) (omega arith) (omega arith)) (digits_value-decimal own (suc m) (omega arith))

-- ---- a printed value

-- digits do not write `missing`
no_word : (ds : List ℕ) → all_ascii_digits ds ≡ true → bytes_eq ds (codes "missing") ≡ false
no_word [] digits = refl
no_word (c ∷ cs) digits = search (rules, tests)

number_is_read : (x : ℤ) → nat_abs x < 2 ^ 63 → key_value (signed_decimal x) ≡ Some (Number x)
number_is_read (pos n) low =
    let plain : bytes_eq (decimal n) (codes "missing") ≡ false = no_word (decimal n) (digits_decimal own n (omega arith)) in
    ap₂ (λ (b : Bool) (o : Option ℤ). cond b (Some Missing) (option_map Number (option_or o (below_zero (decimal n))))) plain (from_decimal n (omega arith))
number_is_read (negsuc m) low =
    ap (λ (o : Option ℤ). option_map Number o) (below_decimal m (omega arith))

pub value_is_read : (value : Value) → IsWithin64 value → key_value (value_text value) ≡ Some value
value_is_read (Number x) low = number_is_read x low
value_is_read Missing low = refl

-- ---- a printed word

name_is_read : (key : Key) (text : List ℕ) → key_named (name_in (name_of key ++ codes "=" ++ text)) ≡ Some key
name_is_read Discipline text = refl
name_is_read key text = refl

text_is_read : (key : Key) (text : List ℕ) → value_in (name_of key ++ codes "=" ++ text) ≡ text
text_is_read Discipline text = refl
text_is_read key text = refl

pub word_is_read : (key : Key) (value : Value) → IsWithin64 value → change_of (word_of (change key value)) ≡ Some (change key value)
word_is_read key value low =
    ap (option_and_then (λ k. option_map (change k) (key_value (value_in (word_of (change key value)))))) (name_is_read key (value_text value))
    ∙ ap (λ (text : List ℕ). option_map (change key) (key_value text)) (text_is_read key (value_text value))
    ∙ ap (option_map (change key)) (value_is_read value low)

-- ---- the field that it was printed of

one_asked : (m : List ℕ) (i : ℕ) (key : Key) (value : Value) → key_value_of m i key ≡ Some value
    → fulfils_all m i (wanted false key (One value ∷ []) ∷ []) ≡ true
one_asked m i key value has =
    let same : same_value value value ≡ true = (same_decides value value).1 refl in
    ap (λ (o : Option Value). option_map_or (holds (test_of false (One value ∷ []))) o false && true) has ∙ ap (λ (b : Bool). (b || false) && true) same

one_condition : (word : List ℕ) (w : Wanted) → wanted_of word ≡ Some w → conditions_of (word ∷ []) ≡ w ∷ []
one_condition word w e = ap (λ (o : Option Wanted). cons_option o []) e

pub word_picks : (m : List ℕ) (i : ℕ) (key : Key) (value : Value) → IsAnyMessage m → All (λ octet. octet < 256) m → 1 ≤ i → i ≤ field_count m
    → key_value_of m i key ≡ Some value → fulfils_all m i (conditions_of (word_of (change key value) ∷ [])) ≡ true
word_picks m i key value h small low high has =
    let word = word_of (change key value) in
    let read = word_is_read key value (values_within Open m i key value h small low high has) in
    let asks = one_condition word (wanted false key (One value ∷ [])) (asks_the_value word (change key value) read) in
    ap (fulfils_all m i) asks ∙ one_asked m i key value has
