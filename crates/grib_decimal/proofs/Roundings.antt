-- When a value is too large, and what rounding gives.
use Rattle.std.proofs.Common.{◌≡◌, ℕ, ◌^◌, ◌<◌, ◌≤◌, ◌==◌, not, ◌&&◌, ◌||◌, nat_le, IsTrue, IsFalse, ℤ, nat_abs, arith}
use Rattle.std.proofs.Math.Nat.{mul-pos, one-le-pow, le-mul_of_pos_right}
use Rattle.std.proofs.lemmas.Bool.Decides.{nat_tests}
use Rattle.std.proofs.lemmas.Nat.{pow_pos}
use Rattle.grib_dyadic.specs.Value.{Exact}
use Rattle.grib_decimal.specs.Decimal.{factor, denominator_of, numerator, denominator, is_too_large}

tested_left : (n a b : ℕ) → 0 < n → 2 ^ 126 ≤ a → IsTrue (not (n == 0) && (nat_le (2 ^ 126) a || nat_le (2 ^ 126) b))
tested_left n a b some large = grind (arith, nat_tests)

tested_below : (n a b : ℕ) → a < 2 ^ 126 → b < 2 ^ 126 → IsFalse (not (n == 0) && (nat_le (2 ^ 126) a || nat_le (2 ^ 126) b))
tested_below n a b small small' = grind (arith, nat_tests)

tested_zero : (n a b : ℕ) → n ≡ 0 → IsFalse (not (n == 0) && (nat_le (2 ^ 126) a || nat_le (2 ^ 126) b))
tested_zero n a b none = grind (arith, nat_tests)

pub factor_some : (binary decimal : ℤ) (places : ℕ) → 0 < factor binary decimal places
factor_some binary decimal places = mul-pos (pow_pos _) (one-le-pow _ 10 (omega arith))

pub denominator_some : (binary decimal : ℤ) (places : ℕ) → 0 < denominator_of binary decimal places
denominator_some binary decimal places = mul-pos (pow_pos _) (one-le-pow _ 10 (omega arith))

pub large_numerator : (v : Exact) (places : ℕ) → 0 < nat_abs v.number → 2 ^ 126 ≤ numerator v places → IsTrue (is_too_large v places)
large_numerator v places some large = tested_left (nat_abs v.number) (numerator v places) (denominator v places) some large

pub small_fraction : (v : Exact) (places : ℕ) → numerator v places < 2 ^ 126 → denominator v places < 2 ^ 126 → IsFalse (is_too_large v places)
small_fraction v places small small' = tested_below (nat_abs v.number) (numerator v places) (denominator v places) small small'

pub large_number : (v : Exact) (places : ℕ) → 2 ^ 126 ≤ nat_abs v.number → IsTrue (is_too_large v places)
large_number v places large =
    let more : nat_abs v.number ≤ numerator v places = le-mul_of_pos_right (nat_abs v.number) (factor_some v.binary v.decimal places) in
    large_numerator v places (omega arith) (omega arith)
