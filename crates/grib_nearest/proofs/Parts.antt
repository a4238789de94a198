-- Sums of two parts, their signs and sizes.
use Rattle.std.proofs.Common.{◌≡◌, ◌≢◌, ℕ, zero, suc, ◌*◌, ◌^◌, ◌<◌, ◌≤◌, ℤ, pos, negsuc, neg_ℤ, ◌+ℤ◌, ◌*ℤ◌, nat_abs, FitsSigned, refl, sym, ◌∙◌, arith}
use Rattle.std.proofs.Math.Nat.{mul-le-mul_right, mul-le-mul, pow-le-pow_right}
use Rattle.std.proofs.lemmas.Int.{ints, unsigned_abs-mul, fits_signed_from_abs}
use Rattle.std.specs.Int.{w128, is_negative}
use Rattle.grib_bits.proofs.Arithmetic.{nat_abs-sum}
use Rattle.grib_nearest.proofs.Numbers.{negative_is, not_negative_is}

-- a first part that counts more than the second decides the sign
pub far_sign : (h l : ℤ) (p : ℕ) → h ≢ pos 0 → nat_abs l < p → is_negative ((h *ℤ pos p) +ℤ l) ≡ is_negative h
far_sign (pos zero) l p some less = absurd (some refl)
far_sign (pos (suc n)) l p some less =
    let one : 1 * p ≤ suc n * p = mul-le-mul_right p (omega arith) in
    not_negative_is (pos (suc n * p) +ℤ l) (omega (arith, ints, one, less)) ∙ sym (not_negative_is (pos (suc n)) (omega (arith, ints)))
far_sign (negsuc n) l p some less =
    let one : 1 * p ≤ suc n * p = mul-le-mul_right p (omega arith) in
    negative_is (neg_ℤ (pos (suc n * p)) +ℤ l) (omega (arith, ints, one, less))

pub far_some : (h l : ℤ) (p : ℕ) → h ≢ pos 0 → nat_abs l < p → ((h *ℤ pos p) +ℤ l) ≢ pos 0
far_some (pos zero) l p some less = λ _. some refl
far_some (pos (suc n)) l p some less = λ e.
    let one : 1 * p ≤ suc n * p = mul-le-mul_right p (omega arith) in
    let sum : (pos (suc n * p) +ℤ l) ≡ pos 0 = e in
    omega (arith, ints, one, less, sum)
far_some (negsuc n) l p some less = λ e.
    let one : 1 * p ≤ suc n * p = mul-le-mul_right p (omega arith) in
    let sum : (neg_ℤ (pos (suc n * p)) +ℤ l) ≡ pos 0 = e in
    omega (arith, ints, one, less, sum)

-- the power counts more than any number of 64 bits
pub low_below : (l : ℤ) (gap : ℕ) → nat_abs l ≤ 2 ^ 63 → 64 ≤ gap → nat_abs l < 2 ^ gap
low_below l gap few far =
    let more : 2 ^ 64 ≤ 2 ^ gap = pow-le-pow_right {n = 2} (omega arith) {i = 64} {j = gap} far in
    omega arith

-- near parts
near_size : (h : ℤ) (gap : ℕ) → nat_abs h ≤ 2 ^ 63 → gap < 64 → nat_abs (h *ℤ pos (2 ^ gap)) ≤ 2 ^ 126
near_size h gap few near =
    let power : 2 ^ gap ≤ 2 ^ 63 = pow-le-pow_right {n = 2} (omega arith) {i = gap} {j = 63} (omega arith) in
    let size : nat_abs (h *ℤ pos (2 ^ gap)) ≡ nat_abs h * 2 ^ gap = unsigned_abs-mul h (pos (2 ^ gap)) in
    omega (arith, size, mul-le-mul few power)

pub near_fits : (h : ℤ) (gap : ℕ) → nat_abs h ≤ 2 ^ 63 → gap < 64 → FitsSigned w128 (h *ℤ pos (2 ^ gap))
near_fits h gap few near = fits_signed_from_abs w128 _ (let size = near_size h gap few near in omega (arith, size))

pub near_sum_fits : (h l : ℤ) (gap : ℕ) → nat_abs h ≤ 2 ^ 63 → nat_abs l ≤ 2 ^ 63 → gap < 64 → FitsSigned w128 ((h *ℤ pos (2 ^ gap)) +ℤ l)
near_sum_fits h l gap few few' near = fits_signed_from_abs w128 _ (omega (arith, near_size h gap few near, few', nat_abs-sum (h *ℤ pos (2 ^ gap)) l))

-- products with powers of ten
tens_few : (tens : ℕ) → tens ≤ 19 → 10 ^ tens ≤ 10 ^ 19
tens_few tens few = pow-le-pow_right {n = 10} (omega arith) {i = tens} {j = 19} few

pub raised_few : (n : ℤ) (tens : ℕ) → nat_abs n < 2 ^ 62 → tens ≤ 19 → nat_abs (n *ℤ pos (10 ^ tens)) < 2 ^ 126
raised_few n tens small few =
    let size : nat_abs (n *ℤ pos (10 ^ tens)) ≡ nat_abs n * 10 ^ tens = unsigned_abs-mul n (pos (10 ^ tens)) in
    let most : nat_abs n ≤ 2 ^ 62 = omega arith in
    omega (arith, size, mul-le-mul most (tens_few tens few))

pub raised_fits : (n : ℤ) (tens : ℕ) → nat_abs n < 2 ^ 62 → tens ≤ 19 → FitsSigned w128 (n *ℤ pos (10 ^ tens))
raised_fits n tens small few = fits_signed_from_abs w128 _ (let size = raised_few n tens small few in omega (arith, size))
