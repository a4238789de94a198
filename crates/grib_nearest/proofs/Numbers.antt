-- Numbers of 126 digits, and their signs.
use Rattle.std.proofs.Common.{◌≡◌, ℕ, suc, ◌+◌, ◌-◌, ◌*◌, ◌/◌, ◌%◌, ◌^◌, ◌<◌, ◌≤◌, inl, inr, ℤ, pos, negsuc, ◌-ℤ◌, ◌<ℤ◌, ◌≤ℤ◌, nat_abs, true, false, FitsSigned, to_z, of_z, to_z-of_z, refl, sym, ap, ◌∙◌, arith}
use Rattle.std.proofs.Math.Nat.{mul-le-mul_right, mul-pos, pow-le-pow_right}
use Rattle.std.proofs.lemmas.Nat.{pow_pos, pow-add, leading_top, shl_below, le-div}
use Rattle.std.proofs.lemmas.Bool.Decides.{nat_tests}
use Rattle.std.proofs.lemmas.Int.{ints, fits_signed_from_abs, to_z_pos}
use Rattle.std.specs.Int.{w32, is_negative}
use Rattle.std.proofs.lemmas.Bool.{cases_lt}
use native.Mathlib.Nat.{mod-eq_of_lt}
use lib.Count.{count_leading_zeros}
use lib.Ieee.{Format, low}
use Rattle.grib_nearest.specs.Nearest.{infinity, units_of, IsNearest, nearest_word}
use Rattle.grib_nearest.specs.Fractions.{numerator_at, denominator_at}
use Rattle.grib_nearest.specs.Values.{signed_word}
use Rattle.grib_nearest.proofs.Units.{unit_some, no_field}
use Rattle.grib_nearest.proofs.Nearness.{only_one, is_nearest}

-- a number shifted until it has 126 digits
pub record IsShifted (number zeros : ℕ) : Type 0 where
  pub many : 2 ≤ count_leading_zeros 128 number
  pub few : zeros ≤ 125
  pub from : 2 ^ 125 ≤ number * 2 ^ zeros
  pub below : number * 2 ^ zeros < 2 ^ 126
  pub whole : number * 2 ^ zeros % 2 ^ 128 ≡ number * 2 ^ zeros

pub is_shifted : (number : ℕ) → 0 < number → number < 2 ^ 126 → IsShifted number (count_leading_zeros 128 number - 2)
is_shifted number some few =
    let top = leading_top 128 number some (omega arith) in
    let j : ℕ = top.0 in
    let short : j ≤ 125 = short_of j top.2 few in
    let zeros = count_leading_zeros 128 number - 2 in
    let e = top.1 in
    let twos : 2 ^ 126 ≡ 2 * (2 ^ j * 2 ^ zeros) = ap (λ k. 2 ^ k) {x = 126} {y = 1 + (j + zeros)} (omega arith) ∙ pow-add 2 1 (j + zeros) ∙ ap (λ k. 2 * k) (pow-add 2 j zeros) in
    let low = mul-le-mul_right (2 ^ zeros) top.2 in
    let high : number * 2 ^ zeros < 2 ^ (126) = shl_at number (suc j) zeros 126 top.3 (omega arith) in
    record {
      many = omega arith;
      few = omega arith;
      from = omega (arith, twos, low);
      below = high;
      whole = mod-eq_of_lt (omega arith);
    }
  where
    short_of : (j : ℕ) → 2 ^ j ≤ number → number < 2 ^ 126 → j ≤ 125
    short_of j from below = elim (cases_lt j 126) [
      | inl less ↦ omega arith
      | inr more ↦ let room : 2 ^ 126 ≤ 2 ^ j = pow-le-pow_right {n = 2} (omega arith) {i = 126} {j = j} more in absurd (omega arith)
    ]

    shl_at : (a j k n : ℕ) → a < 2 ^ j → j + k ≡ n → a * 2 ^ k < 2 ^ n
    shl_at a j k n less e = rw (← e) (shl_below a j k less)

pub steps_many : (number divisor : ℕ) → 2 ^ 125 ≤ number → 0 < divisor → divisor ≤ 10 ^ 19 → 2 ^ 60 ≤ number / divisor
steps_many number divisor from some few = le-div (2 ^ 60) number divisor some (omega arith)

pub steps_few : (number divisor : ℕ) → number < 2 ^ 126 → number / divisor < 2 ^ 126
steps_few number divisor below = omega arith

-- the exponent of what was shifted
pub exponent_is : (e : ℤ) (zeros : ℕ) → FitsSigned w32 e → nat_abs e ≤ 2 ^ 20 → zeros ≤ 125 → to_z w32 (of_z w32 (to_z w32 (of_z w32 e) -ℤ to_z w32 zeros)) ≡ e -ℤ pos zeros
exponent_is e zeros fits small few =
    let right : to_z w32 zeros ≡ pos zeros = to_z_pos w32 zeros (omega arith) in
    let both : to_z w32 (of_z w32 e) -ℤ to_z w32 zeros ≡ e -ℤ pos zeros = ap (λ z. z -ℤ to_z w32 zeros) (to_z-of_z fits) ∙ ap (λ z. e -ℤ z) right in
    let fits' : FitsSigned w32 (e -ℤ pos zeros) = fits_signed_from_abs w32 (e -ℤ pos zeros) (omega (arith, ints)) in
    ap (λ z. to_z w32 (of_z w32 z)) both ∙ to_z-of_z fits'

pub negative_is : (z : ℤ) → z <ℤ pos 0 → is_negative z ≡ true
negative_is (pos n) less = absurd (omega (arith, ints))
negative_is (negsuc n) less = refl

pub not_negative_is : (z : ℤ) → pos 0 ≤ℤ z → is_negative z ≡ false
not_negative_is (pos n) more = grind (arith, nat_tests)
not_negative_is (negsuc n) more = absurd (omega (arith, ints))

-- 0 has the word 0
pub zero_is : (f : Format) (n d : ℕ) → n ≡ 0 → 0 < d → 0 ≡ nearest_word f n d
zero_is f n d none some =
    let units : units_of f 0 ≡ 0 = no_field f 0 (unit_some f) in
    let far : n * 2 ^ low f ≡ 0 = ap (λ k. k * 2 ^ low f) none ∙ omega arith in
    let near : units_of f 0 * d ≡ 0 = ap (λ k. k * d) units ∙ omega arith in
    let is : IsNearest f n d 0 = record { within = omega arith; nearest = λ other _. omega (arith, far, near); even = λ other _ _ _. refl } in
    only_one f n d 0 (nearest_word f n d) some is (is_nearest f n d some)

pub denominator_some : (e : ℤ) (divisor : ℕ) → 0 < divisor → 0 < denominator_at e divisor
denominator_some e divisor some = mul-pos some (pow_pos _)

pub zero_signed : (f : Format) (z e : ℤ) (divisor : ℕ) → z ≡ pos 0 → 0 < divisor → 0 ≡ signed_word f (is_negative z) (nearest_word f (numerator_at e (nat_abs z)) (denominator_at e divisor))
zero_signed f z e divisor none some =
    let word = nearest_word f (numerator_at e (nat_abs z)) (denominator_at e divisor) in
    let zero : numerator_at e (nat_abs z) ≡ 0 = ap (λ k. numerator_at e (nat_abs k)) none ∙ omega arith in
    let is : 0 ≡ word = zero_is f (numerator_at e (nat_abs z)) (denominator_at e divisor) zero (denominator_some e divisor some) in
    let sign : 0 ≡ signed_word f false word = omega (arith, is) in
    sign ∙ ap (λ b. signed_word f b word) (sym (not_negative_is z (omega (arith, ints))))

pub plus_signed : (f : Format) (z : ℤ) (word : ℕ) → pos 0 ≤ℤ z → word ≡ signed_word f (is_negative z) word
plus_signed f z word more =
    let sign : word ≡ signed_word f false word = omega arith in
    sign ∙ ap (λ b. signed_word f b word) (sym (not_negative_is z more))

pub minus_signed : (f : Format) (z : ℤ) (word : ℕ) → z <ℤ pos 0 → word + signed_word f true 0 ≡ signed_word f (is_negative z) word
minus_signed f z word less =
    let sign : word + signed_word f true 0 ≡ signed_word f true word = omega arith in
    sign ∙ ap (λ b. signed_word f b word) (sym (negative_is z less))

pub infinity_below : (f : Format) → infinity f < signed_word f true 0
infinity_below f = omega (arith, unit_some f)
