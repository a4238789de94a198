-- What std's `parse` answers to a text that is a number by the definitions of this crate.
use Rattle.std.proofs.Common.{◌≡◌, ℕ, ◌+◌, ◌-◌, ◌*◌, ◌^◌, ◌<◌, ◌≤◌, Bool, true, false, cond, ◌&&◌, nat_eq, nat_lt, nat_le, ◌==◌, ℤ, pos, neg_ℤ, Some, None, Result, Ok, Err, List, [], ◌∷◌, length, get_or, drop, refl, ap, rules, arith, tests}
use mir.Syntax.{w64}
use Rattle.std.specs.Cmp.Derive.{both_true}
use Rattle.std.specs.Result.{OkIff, result_ok}
use Rattle.std.specs.Str.{all_ascii_digits}
use Rattle.std.specs.Str.Parse.{ParsesUnsigned, ParsesSigned}
use Rattle.std.proofs.lemmas.Str.Parse.{IsNumeralModel, numerals_by_fold, parse_plain, parse_signed_plain, parse_signed_minus}
use Rattle.grib_numbers.specs.Numbers.{number_on, number, begins_from_one, is_number, from_zero, below_zero}

pub own : IsNumeralModel (λ ds. all_ascii_digits ds ≡ true) number
own = numerals_by_fold _ (search rules) number_on (search rules)

-- a call that is Ok just where a test holds
pub by_test : {A E : Type 0} (r : Result A E) (Q : Type 0) (v : A) (b : Bool) → OkIff r Q v → (b ≡ true → Q) → (Q → b ≡ true)
    → result_ok r ≡ cond b (Some v) None
by_test (Ok x) Q v b h from to = rw (to h.0) (ap Some h.1)
by_test (Err e) Q v true h from to = absurd (h (from refl))
by_test (Err e) Q v false h from to = refl

first_digit : (bs : List ℕ) → begins_from_one bs ≡ true → 49 ≤ get_or bs 0 0
first_digit bs begins = search (rules, tests)

is_number-digits : (bs : List ℕ) → begins_from_one bs ≡ true → is_number bs ≡ all_ascii_digits bs
is_number-digits [] begins = cc
is_number-digits (c ∷ cs) begins =
    let other : nat_eq c 48 ≡ false = search (rules, tests, first_digit (c ∷ cs) begins) in
    rw (other, begins) refl

has_first : (bs : List ℕ) → begins_from_one bs ≡ true → 0 < length bs
has_first [] begins = cc
has_first (c ∷ cs) begins = omega arith

grows : (n : ℕ) (cs : List ℕ) → n ≤ number_on n cs
grows n [] = omega arith
grows n (c ∷ cs) = omega (arith, grows (n * 10 + (c - 48)) cs)

from_one : (bs : List ℕ) → begins_from_one bs ≡ true → 1 ≤ number bs
from_one [] begins = cc
from_one (c ∷ cs) begins = omega (arith, grows (0 * 10 + (c - 48)) cs, first_digit (c ∷ cs) begins)

pub and_true : (a b : Bool) → (a && b) ≡ true → (a ≡ true) × (b ≡ true)
and_true true b h = (refl, h)
and_true false b h = cc

pub unsigned : {E : Type 0} (bs : List ℕ) (r : Result ℕ E) → ParsesUnsigned 64 10 bs r → begins_from_one bs ≡ true
    → result_ok r ≡ cond (is_number bs && nat_lt (number bs) (2 ^ 64)) (Some (number bs)) None
unsigned bs r h begins =
    rw (is_number-digits bs begins)
    (by_test r ((all_ascii_digits bs ≡ true) × (0 < length bs) × (number bs < 2 ^ 64)) (number bs) (all_ascii_digits bs && nat_lt (number bs) (2 ^ 64))
    (parse_plain own 64 bs r h (omega (arith, first_digit bs begins)))
    (λ e. let parts = and_true _ _ e in (parts.0, has_first bs begins, search (rules, tests, parts.1)))
    (λ q. both_true q.0 (search (rules, tests, q.2))))

within : (a n b : ℕ) → a ≤ n → n ≤ b → (nat_le a n && nat_le n b) ≡ true
within a n b low high =
    let least : nat_le a n ≡ true = search (rules, tests) in
    let most : nat_le n b ≡ true = search (rules, tests) in
    both_true least most

most_of : (a n b : ℕ) → (nat_le a n && nat_le n b) ≡ true → n ≤ b
most_of a n b both = let most = (and_true (nat_le a n) (nat_le n b) both).1 in search (rules, tests)

pub signed : {E : Type 0} (bs : List ℕ) (r : Result ℤ E) → ParsesSigned w64 10 bs r → begins_from_one bs ≡ true → result_ok r ≡ from_zero bs
signed bs r h begins =
    let n = number bs in
    rw (is_number-digits bs begins)
    (by_test r ((all_ascii_digits bs ≡ true) × (0 < length bs) × (n < 2 ^ 63)) (pos n) (all_ascii_digits bs && (nat_le 0 n && nat_le n (2 ^ 63 - 1)))
    (parse_signed_plain own w64 bs r h (omega (arith, first_digit bs begins)) (omega (arith, first_digit bs begins)))
    (λ e.
    let parts = and_true (all_ascii_digits bs) (nat_le 0 n && nat_le n (2 ^ 63 - 1)) e in
    (parts.0, has_first bs begins, omega (arith, most_of 0 n (2 ^ 63 - 1) parts.1)))
    (λ q. both_true q.0 (within 0 n (2 ^ 63 - 1) (omega arith) (omega (arith, q.2)))))

pub negative : {E : Type 0} (bs : List ℕ) (r : Result ℤ E) → ParsesSigned w64 10 bs r → ((get_or bs 0 0 == 45) && begins_from_one (drop 1 bs)) ≡ true
    → result_ok r ≡ below_zero bs
negative bs r h both =
    let digits = drop 1 bs in
    let n = number digits in
    let parts = and_true (get_or bs 0 0 == 45) (begins_from_one digits) both in
    let minus : get_or bs 0 0 ≡ 45 = search (rules, tests, parts.0) in
    let begins = parts.1 in
    rw (minus, is_number-digits digits begins)
    (by_test r ((all_ascii_digits digits ≡ true) × (0 < length digits) × (n ≤ 2 ^ 63)) (neg_ℤ (pos n))
    (all_ascii_digits digits && (nat_le 1 n && nat_le n (2 ^ 63)))
    (parse_signed_minus own w64 bs r h minus)
    (λ e.
    let parts = and_true (all_ascii_digits digits) (nat_le 1 n && nat_le n (2 ^ 63)) e in
    (parts.0, has_first digits begins, most_of 1 n (2 ^ 63) parts.1))
    (λ q. both_true q.0 (within 1 n (2 ^ 63) (from_one digits begins) q.2)))
