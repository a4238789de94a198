-- Arithmetic that std lacks: ranges of numbers, and numbers with sign.
use Rattle.std.proofs.Common.{◌≡◌, ◌≢◌, ℕ, zero, suc, ◌+◌, ◌*◌, ◌<◌, ◌≤◌, ◌⊎◌, inl, inr, List, ◌∷◌, ◌++◌, ℤ, pos, negsuc, neg_ℤ, ◌+ℤ◌, ◌*ℤ◌, ◌≤ℤ◌, nat_abs, refl, ap, arith, eq-zero-or-pos, mul-le-mul_right}
use Rattle.std.specs.List.{range_with_len}
use Rattle.std.proofs.lemmas.Int.{ints}

-- a range in two parts
pub range_append : (a m n : ℕ) → range_with_len a (m + n) ≡ range_with_len a m ++ range_with_len (a + m) n
range_append a zero n =
    let none : 0 + n ≡ n = omega arith in
    let same : a + 0 ≡ a = omega arith in
    rw (none, same) refl
range_append a (suc m) n =
    let more : suc m + n ≡ suc (m + n) = omega arith in
    let same : a + suc m ≡ a + 1 + m = omega arith in
    rw (more, same) (ap (λ (xs : List ℕ). a ∷ xs) (range_append (a + 1) m n))

-- a number of which a multiple is 0
pub no_factor : (a q : ℕ) → 0 < q → a * q ≡ 0 → a ≡ 0
no_factor a q some e = by (eq-zero-or-pos a)
  where
    by : (a ≡ 0) ⊎ (0 < a) → a ≡ 0
    by (inl z) = z
    by (inr h) = let more : 1 * q ≤ a * q = mul-le-mul_right q h in absurd (omega arith)

-- ---- numbers with sign

pub nat_abs-neg : (n : ℕ) → nat_abs (neg_ℤ (pos n)) ≡ n
nat_abs-neg zero = refl
nat_abs-neg (suc n) = refl

pub nat_abs-times : (z : ℤ) (n : ℕ) → nat_abs (z *ℤ pos n) ≡ nat_abs z * n
nat_abs-times (pos a) n = refl
nat_abs-times (negsuc a) n = nat_abs-neg (suc a * n)

pub nat_abs-sum : (y z : ℤ) → nat_abs (y +ℤ z) ≤ nat_abs y + nat_abs z
nat_abs-sum y z = omega (arith, ints)

pub nat_abs-some : (z : ℤ) → z ≢ pos 0 → 0 < nat_abs z
nat_abs-some (pos zero) other = absurd (other refl)
nat_abs-some (pos (suc n)) other = omega arith
nat_abs-some (negsuc n) other = omega arith

pub zero-times : (n : ℕ) → pos 0 *ℤ pos n ≡ pos 0
zero-times n = let none : 0 * n ≡ 0 = omega arith in ap pos none

pub sum_le : (b x y : ℤ) → x ≤ℤ y → (b +ℤ x) ≤ℤ (b +ℤ y)
sum_le b x y le = omega (arith, ints)
