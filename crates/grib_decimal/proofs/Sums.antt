-- Sums and products of integers, and how large they are.
use Rattle.std.proofs.Common.{◌≡◌, ℕ, ◌+◌, ◌*◌, ◌^◌, ◌<◌, ◌≤◌, ℤ, pos, ◌+ℤ◌, ◌*ℤ◌, nat_abs, FitsSigned, sym, ap, ◌∙◌, arith}
use Rattle.std.proofs.Math.Nat.{mul-le-mul_right, mul_comm}
use Rattle.std.proofs.lemmas.Int.{unsigned_abs-mul, fits_signed_from_abs}
use Rattle.std.specs.Int.{w64}
use Rattle.grib_bits.proofs.Arithmetic.{nat_abs-sum}
use Rattle.grib_dyadic.proofs.Numbers.{times_twice, times_sum}

-- a multiple of the stride, and the numerator with it, have 64 bits
pub product_small : (o s x : ℤ) (most : ℕ) → nat_abs o + most * nat_abs s < 2 ^ 63 → nat_abs x ≤ most → nat_abs o + nat_abs (x *ℤ s) < 2 ^ 63
product_small o s x most within few =
    let less : nat_abs x * nat_abs s ≤ most * nat_abs s = mul-le-mul_right (nat_abs s) few in
    omega (arith, unsigned_abs-mul x s)

pub product_fits : (o s x : ℤ) (most : ℕ) → nat_abs o + most * nat_abs s < 2 ^ 63 → nat_abs x ≤ most → FitsSigned w64 (x *ℤ s)
product_fits o s x most within few = fits_signed_from_abs w64 (x *ℤ s) (omega (arith, product_small o s x most within few))

pub sum_small : (o s x : ℤ) (most : ℕ) → nat_abs o + most * nat_abs s < 2 ^ 63 → nat_abs x ≤ most → nat_abs (o +ℤ (x *ℤ s)) < 2 ^ 63
sum_small o s x most within few = omega (arith, nat_abs-sum o (x *ℤ s), product_small o s x most within few)

pub sum_fits : (o s x : ℤ) (most : ℕ) → nat_abs o + most * nat_abs s < 2 ^ 63 → nat_abs x ≤ most → FitsSigned w64 (o +ℤ (x *ℤ s))
sum_fits o s x most within few = fits_signed_from_abs w64 (o +ℤ (x *ℤ s)) (sum_small o s x most within few)

-- the factor is taken into both terms
pub sum_times : (base x o s : ℤ) (size factor : ℕ) → o ≡ base *ℤ pos factor → s ≡ pos (factor * size) → o +ℤ (x *ℤ s) ≡ (base +ℤ (x *ℤ pos size)) *ℤ pos factor
sum_times base x o s size factor p q =
    ap (λ z. z +ℤ (x *ℤ s)) p ∙ ap (λ z. (base *ℤ pos factor) +ℤ (x *ℤ z)) (q ∙ ap pos (mul_comm factor size)) ∙ ap (λ z. (base *ℤ pos factor) +ℤ z) (times_twice x size factor) ∙ sym (times_sum base (x *ℤ pos size) factor)
