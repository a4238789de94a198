-- When two numbers, each an integer times a power of two, are the same.
use Rattle.std.proofs.Common.{◌≡◌, ℕ, zero, suc, ◌+◌, ◌*◌, ◌^◌, ◌<◌, ℤ, pos, negsuc, ◌+ℤ◌, ◌*ℤ◌, ◌-ℤ◌, ◌≤ℤ◌, neg_ℤ, nat_abs, refl, sym, ap, ◌∙◌, arith}
use Rattle.std.proofs.Math.Nat.{eq_of_mul-eq-mul_right, mul_assoc, zero-mul}
use Rattle.std.proofs.lemmas.Nat.{pow-add, pow_pos}
use Rattle.std.proofs.lemmas.Int.{ints, clamps}
use Rattle.std.specs.Int.{int_min}
use borrow.Author.Differences.{up, down, same_in, same_out, product_is, sum_is_lem}
use Rattle.grib_dyadic.specs.Reference.{Binary, two_to_difference, SameNumber}

-- how many times v is 2 ^ t, where t is no greater than its exponent
abbrev pub scaled : Binary → ℤ → ℤ
scaled v t = v.mantissa *ℤ pos (two_to_difference v.exponent t)

pub two_to_difference-split : (k t u : ℤ) → u ≤ℤ t → t ≤ℤ k → two_to_difference k u ≡ two_to_difference k t * two_to_difference t u
two_to_difference-split k t u low high =
    let e : nat_abs (k -ℤ u) ≡ nat_abs (k -ℤ t) + nat_abs (t -ℤ u) = omega (arith, ints) in
    ap (λ n. 2 ^ n) e ∙ pow-add 2 (nat_abs (k -ℤ t)) (nat_abs (t -ℤ u))

pub two_to_difference-self : (k : ℤ) → two_to_difference k k ≡ 1
two_to_difference-self k = let e : nat_abs (k -ℤ k) ≡ 0 = omega (arith, ints) in ap (λ n. 2 ^ n) e

-- a product with a natural keeps the sign
pub neg-times : (x b : ℕ) → neg_ℤ (pos x) *ℤ pos b ≡ neg_ℤ (pos (x * b))
neg-times zero b = rw zero-mul refl
neg-times (suc x) b = refl

pub times_twice : (m : ℤ) (a b : ℕ) → m *ℤ pos (a * b) ≡ (m *ℤ pos a) *ℤ pos b
times_twice (pos n) a b = ap pos (sym (mul_assoc n a b))
times_twice (negsuc n) a b = ap (λ x. neg_ℤ (pos x)) (sym (mul_assoc (suc n) a b)) ∙ sym (neg-times (suc n * a) b)

pub times_sum : (a b : ℤ) (c : ℕ) → (a +ℤ b) *ℤ pos c ≡ (a *ℤ pos c) +ℤ (b *ℤ pos c)
times_sum a b c =
    let sum = ap (λ n. n * c) (sum_is_lem a b) in
    same_in ((a +ℤ b) *ℤ pos c) ((a *ℤ pos c) +ℤ (b *ℤ pos c)) (omega (arith, product_is (a +ℤ b) (pos c), product_is a (pos c), product_is b (pos c), sum_is_lem (a *ℤ pos c) (b *ℤ pos c)))

pub times_one : (m : ℤ) → m *ℤ pos 1 ≡ m
times_one m = omega (arith, ints)

pub times_cancel : (x y : ℤ) (c : ℕ) → 0 < c → x *ℤ pos c ≡ y *ℤ pos c → x ≡ y
times_cancel x y c some e =
    let both = same_out (x *ℤ pos c) (y *ℤ pos c) e in
    let sum : (up x + down y) * c ≡ (up y + down x) * c = omega (arith, product_is x (pos c), product_is y (pos c)) in
    same_in x y (eq_of_mul-eq-mul_right c some (up x + down y) (up y + down x) sum)

-- the number that is v times 2 ^ t is, at a lower u, that many times 2 ^ (t - u)
pub scaled_lower : (v : Binary) (t u : ℤ) → u ≤ℤ t → t ≤ℤ v.exponent → scaled v u ≡ scaled v t *ℤ pos (two_to_difference t u)
scaled_lower v t u low high =
    ap (λ n. v.mantissa *ℤ pos n) (two_to_difference-split v.exponent t u low high) ∙ times_twice v.mantissa (two_to_difference v.exponent t) (two_to_difference t u)

pub scaled_self : (v : Binary) → scaled v v.exponent ≡ v.mantissa
scaled_self v = ap (λ n. v.mantissa *ℤ pos n) (two_to_difference-self v.exponent) ∙ times_one v.mantissa

min_left : (j k : ℤ) → int_min j k ≤ℤ j
min_left j k = omega (arith, ints, clamps)

min_right : (j k : ℤ) → int_min j k ≤ℤ k
min_right j k = omega (arith, ints, clamps)

min_both : (j k t : ℤ) → t ≤ℤ j → t ≤ℤ k → t ≤ℤ int_min j k
min_both j k t p q = omega (arith, ints, clamps)

-- any t below both exponents tells whether two numbers are the same
pub SameNumber-scaled : (a b : Binary) (t : ℤ) → t ≤ℤ a.exponent → t ≤ℤ b.exponent → SameNumber a b → scaled a t ≡ scaled b t
SameNumber-scaled a b t p q same =
    let m = int_min a.exponent b.exponent in
    let low = min_both a.exponent b.exponent t p q in
    scaled_lower a m t low (min_left a.exponent b.exponent) ∙ ap (λ x. x *ℤ pos (two_to_difference m t)) same ∙ sym (scaled_lower b m t low (min_right a.exponent b.exponent))

pub SameNumber-from_scaled : (a b : Binary) (t : ℤ) → t ≤ℤ a.exponent → t ≤ℤ b.exponent → scaled a t ≡ scaled b t → SameNumber a b
SameNumber-from_scaled a b t p q e =
    let m = int_min a.exponent b.exponent in
    let low = min_both a.exponent b.exponent t p q in
    times_cancel (scaled a m) (scaled b m) (two_to_difference m t) (pow_pos (nat_abs (m -ℤ t))) (sym (scaled_lower a m t low (min_left a.exponent b.exponent)) ∙ e ∙ scaled_lower b m t low (min_right a.exponent b.exponent))

pub SameNumber_sym : (a b : Binary) → SameNumber a b → SameNumber b a
SameNumber_sym a b same =
    let t = int_min a.exponent b.exponent in
    SameNumber-from_scaled b a t (min_right a.exponent b.exponent) (min_left a.exponent b.exponent) (sym same)

pub SameNumber_trans : (a b c : Binary) → SameNumber a b → SameNumber b c → SameNumber a c
SameNumber_trans a b c p q =
    let s = int_min a.exponent b.exponent in
    let t = int_min s c.exponent in
    let at_a : t ≤ℤ a.exponent = omega (arith, ints, clamps) in
    let at_b : t ≤ℤ b.exponent = omega (arith, ints, clamps) in
    let at_c : t ≤ℤ c.exponent = omega (arith, ints, clamps) in
    SameNumber-from_scaled a c t at_a at_c (SameNumber-scaled a b t at_a at_b p ∙ SameNumber-scaled b c t at_b at_c q)
