-- The first digits of a fraction, by a division.
use Rattle.std.proofs.Common.{◌≡◌, ℕ, zero, suc, ◌+◌, ◌*◌, ◌/◌, ◌%◌, ◌^◌, ◌<◌, ◌≤◌, inl, inr, Bool, true, false, ℤ, pos, negsuc, neg_ℤ, ◌+ℤ◌, ◌-ℤ◌, refl, sym, ap, ◌∙◌, arith}
use Rattle.std.proofs.Math.Nat.{mul-le-mul_right, mul-lt-mul_of_pos_right, le_of_mul-le-mul_right, mul-le-mul, pow-le-pow_right, mul_assoc}
use native.Mathlib.Nat.{lt_of_mul-lt-mul_right, eq_of_mul-eq-mul_right}
use Rattle.std.proofs.lemmas.Nat.{pow_pos, pow-add, mod_below, div-add-mod'}
use Rattle.std.proofs.lemmas.Bool.{cases_lt}
use Rattle.std.proofs.lemmas.Int.{ints}
use Rattle.grib_decimal.specs.Decimal.{or_0}
use Rattle.grib_long.specs.Floor.{IsFloor}
use Rattle.grib_nearest.specs.Leading.{IsLeading}
use Rattle.grib_nearest.specs.Fractions.{numerator_at, denominator_at}

or_0_parts : (e : ℤ) → pos (or_0 e) -ℤ pos (or_0 (neg_ℤ e)) ≡ e
or_0_parts (pos zero) = refl
or_0_parts (pos (suc n)) = omega (arith, ints)
or_0_parts (negsuc n) = omega (arith, ints)

-- both sides times a power of two
floor_times : (number steps step k : ℕ) (more : Bool) → IsFloor number steps step more → IsFloor (number * 2 ^ k) steps (step * 2 ^ k) more
floor_times number steps step k more is = record {
  from = omega (arith, mul-le-mul_right (2 ^ k) is.from, mul_assoc steps step (2 ^ k));
  below = omega (arith, mul-lt-mul_of_pos_right is.below (pow_pos k), mul_assoc (steps + 1) step (2 ^ k));
  exact = λ none. omega (arith, ap (λ x. x * 2 ^ k) (is.exact none), mul_assoc steps step (2 ^ k));
  above = λ some. omega (arith, mul-lt-mul_of_pos_right (is.above some) (pow_pos k), mul_assoc steps step (2 ^ k));
}

-- a whole number by a divisor
pub division : (number divisor : ℕ) (more : Bool) → 0 < divisor → (more ≡ false → number % divisor ≡ 0) → (more ≡ true → 0 < number % divisor) → IsFloor number (number / divisor) divisor more
division number divisor more some none part =
    let whole = div-add-mod' number divisor in
    let rest = mod_below number divisor some in
    record {
      from = omega (arith, whole);
      below = omega (arith, whole, rest);
      exact = λ is. omega (arith, whole, none is);
      above = λ is. omega (arith, whole, part is);
    }

-- number * 2 ^ e / divisor, where the number times 2 ^ zeros is so many divisors
pub leading_is : (number divisor zeros steps : ℕ) (more : Bool) (e e' : ℤ) → e' ≡ e -ℤ pos zeros → IsFloor (number * 2 ^ zeros) steps divisor more → IsLeading (numerator_at e number) (denominator_at e divisor) steps more e'
leading_is number divisor zeros steps more e e' is floor a b split =
    let up = or_0 e in
    let down = or_0 (neg_ℤ e) in
    let parts : pos up -ℤ pos down ≡ e = or_0_parts e in
    let same : up + b ≡ zeros + (down + a) = omega (arith, ints, parts, is, split) in
    let left : number * 2 ^ up * 2 ^ b ≡ number * 2 ^ zeros * 2 ^ (down + a) =
    mul_assoc number (2 ^ up) (2 ^ b) ∙ ap (λ k. number * k) (sym (pow-add 2 up b) ∙ ap (λ k. 2 ^ k) same ∙ pow-add 2 zeros (down + a)) ∙ sym (mul_assoc number (2 ^ zeros) (2 ^ (down + a))) in
    let right : divisor * 2 ^ down * 2 ^ a ≡ divisor * 2 ^ (down + a) = mul_assoc divisor (2 ^ down) (2 ^ a) ∙ ap (λ k. divisor * k) (sym (pow-add 2 down a)) in
    rw (left, right) (floor_times (number * 2 ^ zeros) steps divisor (down + a) more floor)

-- and without it
floor_cancel : (number steps step k : ℕ) (more : Bool) → IsFloor (number * 2 ^ k) steps (step * 2 ^ k) more → IsFloor number steps step more
floor_cancel number steps step k more is =
    let p = pow_pos k in
    record {
      from = le_of_mul-le-mul_right {k = 2 ^ k} (omega (arith, is.from, mul_assoc steps step (2 ^ k))) p;
      below = lt_of_mul-lt-mul_right (2 ^ k) (omega (arith, is.below, mul_assoc (steps + 1) step (2 ^ k)));
      exact = λ none. eq_of_mul-eq-mul_right (2 ^ k) p number (steps * step) (omega (arith, is.exact none, mul_assoc steps step (2 ^ k)));
      above = λ some. lt_of_mul-lt-mul_right (2 ^ k) (omega (arith, is.above some, mul_assoc steps step (2 ^ k)));
    }

-- number * 2 ^ e / divisor, where the number times 2 ^ zeros is so many divisors times 2 ^ dropped
pub leading_far : (number divisor zeros dropped steps : ℕ) (more : Bool) (e e' : ℤ) → e' ≡ e +ℤ pos dropped -ℤ pos zeros → IsFloor (number * 2 ^ zeros) steps (divisor * 2 ^ dropped) more
    → IsLeading (numerator_at e number) (denominator_at e divisor) steps more e'
leading_far number divisor zeros dropped steps more e e' is floor a b split =
    let up = or_0 e in
    let down = or_0 (neg_ℤ e) in
    let parts : pos up -ℤ pos down ≡ e = or_0_parts e in
    let same : zeros + (down + a) ≡ up + b + dropped = omega (arith, ints, parts, is, split) in
    let same' : dropped + (down + a) ≡ down + a + dropped = omega arith in
    let left : number * 2 ^ zeros * 2 ^ (down + a) ≡ number * 2 ^ up * 2 ^ b * 2 ^ dropped =
    mul_assoc number (2 ^ zeros) (2 ^ (down + a)) ∙ ap (λ k. number * k) (sym (pow-add 2 zeros (down + a)) ∙ ap (λ k. 2 ^ k) same ∙ pow-add 2 (up + b) dropped ∙ ap (λ k. k * 2 ^ dropped) (pow-add 2 up b))
    ∙ sym (mul_assoc number (2 ^ up * 2 ^ b) (2 ^ dropped)) ∙ ap (λ k. k * 2 ^ dropped) (sym (mul_assoc number (2 ^ up) (2 ^ b))) in
    let right : divisor * 2 ^ dropped * 2 ^ (down + a) ≡ divisor * 2 ^ down * 2 ^ a * 2 ^ dropped =
    mul_assoc divisor (2 ^ dropped) (2 ^ (down + a)) ∙ ap (λ k. divisor * k) (sym (pow-add 2 dropped (down + a)) ∙ ap (λ k. 2 ^ k) same' ∙ pow-add 2 (down + a) dropped ∙ ap (λ k. k * 2 ^ dropped) (pow-add 2 down a))
    ∙ sym (mul_assoc divisor (2 ^ down * 2 ^ a) (2 ^ dropped)) ∙ ap (λ k. k * 2 ^ dropped) (sym (mul_assoc divisor (2 ^ down) (2 ^ a))) in
    let wide : IsFloor (number * 2 ^ zeros * 2 ^ (down + a)) steps (divisor * 2 ^ dropped * 2 ^ (down + a)) more = floor_times (number * 2 ^ zeros) steps (divisor * 2 ^ dropped) (down + a) more floor in
    floor_cancel (number * 2 ^ up * 2 ^ b) steps (divisor * 2 ^ down * 2 ^ a) dropped more (rw (left, right) at wide)

tens_below : (k : ℕ) → 10 ^ k ≤ 2 ^ (4 * k)
tens_below zero = omega arith
tens_below (suc k) =
    let tens : 10 ^ suc k ≡ 10 ^ k * 10 = ap (λ n. 10 ^ n) {x = suc k} {y = k + 1} (omega arith) ∙ pow-add 10 k 1 in
    let twos : 2 ^ (4 * suc k) ≡ 2 ^ (4 * k) * 16 = ap (λ n. 2 ^ n) {x = 4 * suc k} {y = 4 * k + 4} (omega arith) ∙ pow-add 2 (4 * k) 4 in
    omega (arith, tens, twos, tens_below k)

-- with enough zeros the quotient has many digits
pub many_left : (number whole zeros down : ℕ) (more : Bool) → 0 < number → 4 * down + 100 ≤ 32 * zeros → IsFloor (number * 2 ^ (32 * zeros)) whole (10 ^ down) more → 2 ^ 94 ≤ whole
many_left number whole zeros down more some many floor =
    let powers : 2 ^ (4 * down + 100) ≡ 2 ^ (4 * down) * 2 ^ 100 = pow-add 2 (4 * down) 100 in
    let more' : 2 ^ (4 * down + 100) ≤ 2 ^ (32 * zeros) = pow-le-pow_right {n = 2} (omega arith) {i = 4 * down + 100} {j = 32 * zeros} many in
    let once : 1 * 2 ^ (32 * zeros) ≤ number * 2 ^ (32 * zeros) = mul-le-mul_right (2 ^ (32 * zeros)) some in
    elim (cases_lt whole (2 ^ 94)) [
      | inl less ↦
          let few : (whole + 1) * 10 ^ down ≤ 2 ^ 94 * 2 ^ (4 * down) = mul-le-mul (next less) (tens_below down) in
          absurd (omega (arith, powers, more', once, few, floor.below, pow_pos (4 * down)))
      | inr enough ↦ enough
    ]
  where
    next : whole < 2 ^ 94 → whole + 1 ≤ 2 ^ 94
    next less = omega arith
