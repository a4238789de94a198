-- Powers of two and of ten.
use Rattle.std.proofs.Common.{◌≡◌, ℕ, suc, ◌*◌, ◌^◌, ◌<◌, ◌≤◌, ◌≢◌, inl, inr, Option, Some, None, ℤ, pos, negsuc, ◌*ℤ◌, ◌<ℤ◌, ◌≤ℤ◌, nat_abs, SomeIff, FitsSigned, ◌%◌, to_z, of_z, ap, subst, ◌∙◌, arith}
use Rattle.std.proofs.Math.Nat.{pow-le-pow_right, one-le-pow, mul-le-mul}
use Rattle.std.proofs.lemmas.Nat.{one_shl, pow_below}
use Rattle.std.proofs.lemmas.Bool.{cases_lt}
use Rattle.std.proofs.lemmas.Int.{ints, clamps, fits_signed_from_abs, to_z_pos}
use Rattle.std.specs.Int.{w128, int_max}
use Rattle.grib_bits.proofs.Arithmetic.{nat_abs-times}
use Rattle.grib_decimal.specs.Decimal.{or_0}
use Rattle.grib_decimal.specs.Parts.{IsKnown}

-- a lesser power has a lesser exponent
pub bits_below : (b k : ℕ) → 2 ^ b < 2 ^ k → b < k
bits_below b k less = elim (cases_lt b k) [ inl l ↦ l | inr g ↦ let more : 2 ^ k ≤ 2 ^ b = pow-le-pow_right {n = 2} (omega arith) {i = k} {j = b} g in absurd (omega arith) ]

or_0_above : (z : ℤ) (n : ℕ) → pos n <ℤ z → suc n ≤ or_0 z
or_0_above (pos m) n above = omega (arith, ints)
or_0_above (negsuc m) n above = absurd (omega (arith, ints))

or_0_below : (z : ℤ) (n : ℕ) → z ≤ℤ pos n → or_0 z ≤ n
or_0_below (pos m) n below = omega (arith, ints)
or_0_below (negsuc m) n below = omega arith

pub few_tens : (z : ℤ) → z ≤ℤ pos 37 → 10 ^ or_0 z < 2 ^ 128
few_tens z few =
    let more : 10 ^ or_0 z ≤ 10 ^ 37 = pow-le-pow_right {n = 10} (omega arith) {i = or_0 z} {j = 37} (or_0_below z 37 few) in
    omega arith

pub many_twos : (twos tens : ℤ) → pos 125 <ℤ twos → 2 ^ 126 ≤ 2 ^ or_0 twos * 10 ^ or_0 tens
many_twos twos tens many =
    let more : 2 ^ 126 ≤ 2 ^ or_0 twos = pow-le-pow_right {n = 2} (omega arith) {i = 126} {j = or_0 twos} (or_0_above twos 125 many) in
    let product : 2 ^ 126 * 1 ≤ 2 ^ or_0 twos * 10 ^ or_0 tens = mul-le-mul more (one-le-pow (or_0 tens) 10 (omega arith)) in
    omega arith

pub many_tens : (twos tens : ℤ) → pos 37 <ℤ tens → 2 ^ 126 ≤ 2 ^ or_0 twos * 10 ^ or_0 tens
many_tens twos tens many =
    let more : 10 ^ 38 ≤ 10 ^ or_0 tens = pow-le-pow_right {n = 10} (omega arith) {i = 38} {j = or_0 tens} (or_0_above tens 37 many) in
    let product : 1 * 10 ^ 38 ≤ 2 ^ or_0 twos * 10 ^ or_0 tens = mul-le-mul (one-le-pow (or_0 twos) 2 (omega arith)) more in
    omega arith

pub many_bits : (number shift : ℤ) → number ≢ pos 0 → pos 126 <ℤ shift → 2 ^ 127 ≤ nat_abs (number *ℤ pos (2 ^ nat_abs shift))
many_bits number shift some many =
    let long : 127 ≤ nat_abs shift = omega (arith, ints) in
    let more : 2 ^ 127 ≤ 2 ^ nat_abs shift = pow-le-pow_right {n = 2} (omega arith) {i = 127} {j = nat_abs shift} long in
    let one : 1 ≤ nat_abs number = omega (arith, ints) in
    let product : 1 * 2 ^ 127 ≤ nat_abs number * 2 ^ nat_abs shift = mul-le-mul one more in
    omega (arith, nat_abs-times number (2 ^ nat_abs shift))

-- what fits 128 bits is known
pub known_from_fits : (o : Option ℤ) (z : ℤ) → SomeIff o (FitsSigned w128 z) z → IsKnown 127 o z
known_from_fits (Some n) z is = is.1
known_from_fits None z is = elim (cases_lt (nat_abs z) (2 ^ 127)) [ inl l ↦ absurd (is (fits_signed_from_abs w128 z l)) | inr g ↦ g ]

pub or_0_max : (z : ℤ) → int_max z (pos 0) ≡ pos (or_0 z)
or_0_max (pos n) = omega (arith, ints, clamps)
or_0_max (negsuc n) = omega (arith, ints, clamps)

pub ten_to : (tens r : ℤ) → tens ≤ℤ pos 37 → r ≡ pos (or_0 tens) → 10 ^ nat_abs r < 2 ^ 128
ten_to tens r few e = rw e (few_tens tens few)

pub bit_of : (n : ℕ) → n ≤ 126 → to_z w128 (1 * 2 ^ n % 2 ^ 128) ≡ pos (2 ^ n)
bit_of n few = ap (to_z w128) (one_shl n 128 (omega arith)) ∙ to_z_pos w128 (2 ^ n) (pow_below n 127 (omega arith))

pub bit_is : (s z : ℤ) → z ≡ s → pos 0 ≤ℤ s → s ≤ℤ pos 126 → to_z w128 (1 * 2 ^ of_z w128 z % 2 ^ 128) ≡ pos (2 ^ nat_abs s)
bit_is (pos n) z e low high = rw e (bit_of n (omega (arith, ints)))
bit_is (negsuc n) z e low high = absurd (omega (arith, ints))

-- the product of two numbers that are known to be a and b
pub known_product : (o : Option ℤ) (x y a b : ℤ) → x ≡ a → y ≡ b → SomeIff o (FitsSigned w128 (x *ℤ y)) (x *ℤ y) → IsKnown 127 o (a *ℤ b)
known_product o x y a b p q is =
    known_from_fits o (a *ℤ b) (subst (λ (z : ℤ). SomeIff o (FitsSigned w128 z) z) (ap (λ z. z *ℤ y) p ∙ ap (λ z. a *ℤ z) q) is)
