-- Values as whole numbers of 127 bits.
use Rattle.std.proofs.Common.{◌≡◌, ℕ, ◌*◌, ◌%◌, ◌^◌, ◌<◌, ◌≤◌, Option, Some, None, IfSome, SomeIff, FitsSigned, to_z, ℤ, pos, ◌+ℤ◌, ◌*ℤ◌, nat_abs, sym, ap, ◌∙◌, arith}
use Rattle.std.proofs.Math.Nat.{mul_comm, mul-le-mul, pow-le-pow_right}
use Rattle.std.proofs.lemmas.Nat.{one_shl, pow_below}
use Rattle.std.proofs.lemmas.Int.{ints, unsigned_abs-mul, to_z_pos}
use Rattle.std.specs.Int.{w64, w128}
use Rattle.grib_dyadic.proofs.Numbers.{times_twice, times_sum}
use Rattle.grib_same.proofs.Wholes.{factors}

pub few_tens : (n : ℕ) → n ≤ 18 → 10 ^ n < 2 ^ 60
few_tens n few = let more : 10 ^ n ≤ 10 ^ 18 = pow-le-pow_right {n = 10} (omega arith) {i = n} {j = 18} few in omega arith

pub bit_128 : (n : ℕ) → n ≤ 125 → to_z w128 (1 * 2 ^ n % 2 ^ 128) ≡ pos (2 ^ n)
bit_128 n few = ap (to_z w128) (one_shl n 128 (omega arith)) ∙ to_z_pos w128 (2 ^ n) (pow_below n 127 (omega arith))

pub bit_64 : (n : ℕ) → n ≤ 62 → to_z w64 (1 * 2 ^ n % 2 ^ 64) ≡ pos (2 ^ n)
bit_64 n few = ap (to_z w64) (one_shl n 64 (omega arith)) ∙ to_z_pos w64 (2 ^ n) (pow_below n 63 (omega arith))

-- the product of two numbers that are known to be a and b
pub some_product : (P : Type 0) (o : Option ℤ) (x y a b : ℤ) → x ≡ a → y ≡ b → SomeIff o P (x *ℤ y) → IfSome o (λ n. n ≡ a *ℤ b)
some_product P (Some n) x y a b p q is = is.1 ∙ ap (λ z. z *ℤ y) p ∙ ap (λ z. a *ℤ z) q
some_product P None x y a b p q is = tt

-- a number of 64 bits times another
pub product_small : (x y : ℤ) → FitsSigned w64 x → FitsSigned w64 y → nat_abs (x *ℤ y) ≤ 2 ^ 126
product_small x y x_fits y_fits =
    let a : nat_abs x ≤ 2 ^ 63 = omega (arith, ints) in
    let b : nat_abs y ≤ 2 ^ 63 = omega (arith, ints) in
    let product : nat_abs x * nat_abs y ≤ 2 ^ 63 * 2 ^ 63 = mul-le-mul a b in
    omega (arith, unsigned_abs-mul x y, product)

pub product_fits : (x y : ℤ) → FitsSigned w64 x → FitsSigned w64 y → FitsSigned w128 (x *ℤ y)
product_fits x y x_fits y_fits = let p = product_small x y x_fits y_fits in omega (arith, ints, p)

pub line_fits : (origin x y : ℤ) → nat_abs origin < 2 ^ 126 → FitsSigned w64 x → FitsSigned w64 y → FitsSigned w128 (origin +ℤ (x *ℤ y))
line_fits origin x y small x_fits y_fits = let p = product_small x y x_fits y_fits in omega (arith, ints, p)

-- the whole number of a point, by what is worked out once
pub line_is : (m x origin stride : ℤ) (a b t : ℕ) → origin ≡ (m *ℤ pos t) *ℤ pos a → stride ≡ pos t *ℤ pos b → (origin +ℤ (x *ℤ stride)) ≡ ((m *ℤ pos a) +ℤ (x *ℤ pos b)) *ℤ pos t
line_is m x origin stride a b t first step =
    ap (λ n. n +ℤ (x *ℤ stride)) (first ∙ factors t a m)
    ∙ ap (λ n. ((m *ℤ pos a) *ℤ pos t) +ℤ (x *ℤ n)) (step ∙ ap pos (mul_comm t b))
    ∙ ap (λ n. ((m *ℤ pos a) *ℤ pos t) +ℤ n) (times_twice x b t)
    ∙ sym (times_sum (m *ℤ pos a) (x *ℤ pos b) t)
