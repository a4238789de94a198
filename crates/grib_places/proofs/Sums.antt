-- Sums of two products, and numbers with sign.
use Rattle.std.proofs.Common.{◌≡◌, ℕ, ◌*◌, ◌^◌, ◌<◌, ◌≤◌, ℤ, pos, ◌+ℤ◌, ◌*ℤ◌, nat_abs, FitsSigned, arith}
use Rattle.std.specs.Int.{w64}
use Rattle.std.proofs.Math.Nat.{mul-le-mul}
use Rattle.std.proofs.lemmas.Int.{unsigned_abs-mul, fits_signed_from_abs}
use Rattle.grib_bits.proofs.Arithmetic.{nat_abs-sum}

product-small : (a : ℤ) (m : ℕ) → nat_abs a < 2 ^ 32 → m ≤ 2 ^ 25 → nat_abs (a *ℤ pos m) ≤ 2 ^ 57
product-small a m few small =
    let size : nat_abs (a *ℤ pos m) ≡ nat_abs a * m = unsigned_abs-mul a (pos m) in
    let most : nat_abs a ≤ 2 ^ 32 = omega arith in
    omega (arith, size, mul-le-mul most small)

pub sum-small : (a b : ℤ) (m n : ℕ) → nat_abs a < 2 ^ 32 → nat_abs b < 2 ^ 32 → m ≤ 2 ^ 25 → n ≤ 2 ^ 25 → nat_abs ((a *ℤ pos m) +ℤ (b *ℤ pos n)) < 2 ^ 62
sum-small a b m n few_a few_b few_m few_n =
    omega (arith, nat_abs-sum (a *ℤ pos m) (b *ℤ pos n), product-small a m few_a few_m, product-small b n few_b few_n)

pub product-fits : (a : ℤ) (m : ℕ) → nat_abs a < 2 ^ 32 → m ≤ 2 ^ 25 → FitsSigned w64 (a *ℤ pos m)
product-fits a m few small = fits_signed_from_abs w64 _ (let size = product-small a m few small in omega (arith, size))

pub sum-fits : (a b : ℤ) (m n : ℕ) → nat_abs a < 2 ^ 32 → nat_abs b < 2 ^ 32 → m ≤ 2 ^ 25 → n ≤ 2 ^ 25 → FitsSigned w64 ((a *ℤ pos m) +ℤ (b *ℤ pos n))
sum-fits a b m n few_a few_b few_m few_n = fits_signed_from_abs w64 _ (let size = sum-small a b m n few_a few_b few_m few_n in omega (arith, size))
