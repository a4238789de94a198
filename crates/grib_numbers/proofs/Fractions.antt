-- The digits behind a point.
use Rattle.std.proofs.Common.{◌≡◌, ℕ, ◌+◌, ◌-◌, ◌*◌, ◌^◌, ◌<◌, ◌≤◌, true, false, Bool, cond, ◌&&◌, nat_le, nat_lt, Some, None, Result, List, [], ◌∷◌, length, get_or, ap, refl, rules, arith, tests, mul-le-mul_right}
use Rattle.std.specs.Cmp.Derive.{both_true}
use Rattle.std.specs.Result.{result_ok}
use Rattle.std.specs.Str.{all_ascii_digits}
use Rattle.std.specs.Str.Parse.{ParsesUnsigned}
use Rattle.std.proofs.Math.Nat.{pow-succ', pow-zero}
use Rattle.std.proofs.lemmas.Str.Parse.{tells_all_ascii_digits, parse_plain}
use Rattle.grib_numbers.specs.Numbers.{number_on, number}
use Rattle.grib_numbers.specs.Degrees.{begins_with_digit, is_fraction, fraction_of}
use Rattle.grib_numbers.proofs.Parsed.{own, by_test, and_true}

grown : (n d x : ℕ) → d ≤ 9 → (n * 10 + d + 1) * x ≤ (n + 1) * (10 * x)
grown n d x small =
    let least : n * 10 + d + 1 ≤ (n + 1) * 10 = omega (arith, small) in
    let times = mul-le-mul_right x least in
    omega (arith, times)

-- digits are less than a 1 with as many zeros
pub few : (n : ℕ) (ds : List ℕ) → all_ascii_digits ds ≡ true → number_on n ds < (n + 1) * 10 ^ length ds
few n [] h = omega (arith, pow-zero 10, ap (λ x. (n + 1) * x) (pow-zero 10))
few n (c ∷ cs) h =
    let parts = tells_all_ascii_digits.parts c cs h in
    let next = few (n * 10 + (c - 48)) cs parts.1 in
    let digit : c - 48 ≤ 9 = omega (arith, parts.0.0, parts.0.1) in
    let more = grown n (c - 48) (10 ^ length cs) digit in
    omega (arith, next, more, ap (λ x. (n + 1) * x) (pow-succ' 10 (length cs)))

first_digit : (bs : List ℕ) → begins_with_digit bs ≡ true → 48 ≤ get_or bs 0 0
first_digit bs begins = search (rules, tests)

some_digits : (bs : List ℕ) → begins_with_digit bs ≡ true → 0 < length bs
some_digits [] begins = cc
some_digits (c ∷ cs) begins = omega arith

below : (bs : List ℕ) → all_ascii_digits bs ≡ true → length bs ≤ 6 → number bs < 1000000
below [] h short = omega arith
below (a ∷ []) h short = omega (arith, few 0 (a ∷ []) h)
below (a ∷ b ∷ []) h short = omega (arith, few 0 (a ∷ b ∷ []) h)
below (a ∷ b ∷ c ∷ []) h short = omega (arith, few 0 (a ∷ b ∷ c ∷ []) h)
below (a ∷ b ∷ c ∷ d ∷ []) h short = omega (arith, few 0 (a ∷ b ∷ c ∷ d ∷ []) h)
below (a ∷ b ∷ c ∷ d ∷ e ∷ []) h short = omega (arith, few 0 (a ∷ b ∷ c ∷ d ∷ e ∷ []) h)
below (a ∷ b ∷ c ∷ d ∷ e ∷ f ∷ []) h short = omega (arith, few 0 (a ∷ b ∷ c ∷ d ∷ e ∷ f ∷ []) h)
below (a ∷ b ∷ c ∷ d ∷ e ∷ f ∷ g ∷ rest) h short = absurd (omega (arith, short))

-- what std's `parse` answers to at most six digits
pub parsed : {E : Type 0} (bs : List ℕ) (r : Result ℕ E) → ParsesUnsigned 32 10 bs r → begins_with_digit bs ≡ true → length bs ≤ 6
    → result_ok r ≡ cond (is_fraction bs) (Some (number bs)) None
parsed bs r h begins short =
    by_test r ((all_ascii_digits bs ≡ true) × (0 < length bs) × (number bs < 2 ^ 32)) (number bs) (is_fraction bs)
    (parse_plain own 32 bs r h (omega (arith, first_digit bs begins)))
    (λ e.
    let parts = and_true (all_ascii_digits bs) (nat_lt 0 (length bs) && nat_le (length bs) 6) e in
    (parts.0, some_digits bs begins, omega (arith, below bs parts.0 short)))
    (λ q.
    let some : nat_lt 0 (length bs) ≡ true = search (rules, tests, q.1) in
    let six : nat_le (length bs) 6 ≡ true = search (rules, tests, short) in
    both_true q.0 (both_true some six))

-- a test that gave none holds not, and one that gave a number holds
test_fails : (b : Bool) (n : ℕ) → cond b (Some n) None ≡ None → b ≡ false
test_fails true n e = let no : ⊥ = cc in absurd no
test_fails false n e = refl

test_holds : (b : Bool) (n m : ℕ) → cond b (Some n) None ≡ Some m → (b ≡ true) × (n ≡ m)
test_holds true n m e = (refl, cc)
test_holds false n m e = let no : ⊥ = cc in absurd no

pub no_fraction : (bs : List ℕ) → cond (is_fraction bs) (Some (number bs)) None ≡ None → None ≡ fraction_of bs
no_fraction bs e = rw (test_fails (is_fraction bs) (number bs) e) refl

pub a_fraction : (bs : List ℕ) (n : ℕ) → cond (is_fraction bs) (Some (number bs)) None ≡ Some n → Some (n * 10 ^ (6 - length bs)) ≡ fraction_of bs
a_fraction bs n e = let found = test_holds (is_fraction bs) (number bs) n e in rw (found.0, ← found.1) refl

filled : (bs : List ℕ) (n : ℕ) → n < 1 * 10 ^ length bs → length bs ≤ 6 → n * 10 ^ (6 - length bs) < 1000000
filled [] n h short = omega (arith, h)
filled (a ∷ []) n h short = omega (arith, h)
filled (a ∷ b ∷ []) n h short = omega (arith, h)
filled (a ∷ b ∷ c ∷ []) n h short = omega (arith, h)
filled (a ∷ b ∷ c ∷ d ∷ []) n h short = omega (arith, h)
filled (a ∷ b ∷ c ∷ d ∷ e ∷ []) n h short = omega (arith, h)
filled (a ∷ b ∷ c ∷ d ∷ e ∷ f ∷ []) n h short = omega (arith, h)
filled (a ∷ b ∷ c ∷ d ∷ e ∷ f ∷ g ∷ rest) n h short = absurd (omega (arith, short))

pub small : (bs : List ℕ) (n : ℕ) → cond (is_fraction bs) (Some (number bs)) None ≡ Some n → length bs ≤ 6 → n * 10 ^ (6 - length bs) < 1000000
small bs n e short =
    let found = test_holds (is_fraction bs) (number bs) n e in
    let parts = and_true (all_ascii_digits bs) (nat_lt 0 (length bs) && nat_le (length bs) 6) found.0 in
    filled bs n (rw (← found.1) (few 0 bs parts.0)) short
