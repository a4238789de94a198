-- Numbers and their magnitudes.
use Rattle.std.proofs.Common.{◌≡◌, ℕ, ◌*◌, ◌/◌, ◌%◌, ◌^◌, ◌<◌, ◌↔◌, Bool, true, false, IsTrue, ℤ, pos, negsuc, ◌+ℤ◌, ◌*ℤ◌, ◌-ℤ◌, ◌≤ℤ◌, ◌<ℤ◌, nat_abs, refl, sym, ap, ◌∙◌, subst, arith, if◌then◌else◌}
use Rattle.std.proofs.lemmas.Int.{ints}
use Rattle.std.specs.Int.{int_min, is_negative, w32, trailing_zeros}
use Rattle.grib_bits.proofs.Arithmetic.{nat_abs-neg}
use Rattle.grib_dyadic.specs.Sign.{signed}
use Rattle.grib_dyadic.specs.Reference.{Binary, binary, two_to_difference, SameNumber}
use Rattle.grib_dyadic.proofs.Numbers.{neg-times, scaled_self, SameNumber-from_scaled, SameNumber_sym}
use Rattle.grib_dyadic.proofs.Lengths.{without_zeros}

pub nat_abs-signed : (negative : Bool) (n : ℕ) → nat_abs (signed negative n) ≡ n
nat_abs-signed true n = nat_abs-neg n
nat_abs-signed false n = refl

pub signed-times : (negative : Bool) (n c : ℕ) → signed negative n *ℤ pos c ≡ signed negative (n * c)
signed-times true n c = neg-times n c
signed-times false n c = refl

-- a number is its magnitude with its sign
pub signed-nat_abs : (negative : Bool) (z : ℤ) → IsTrue negative ↔ (z <ℤ pos 0) → signed negative (nat_abs z) ≡ z
signed-nat_abs true (pos n) h = let l = h.0 refl in absurd (omega (arith, ints))
signed-nat_abs true (negsuc n) h = refl
signed-nat_abs false (pos n) h = refl
signed-nat_abs false (negsuc n) h = let e : false ≡ true = h.1 (omega (arith, ints)) in cc

-- a number is its magnitude with its sign, as a number with an exponent
pub signed_number : (negative : Bool) (v : Binary) → IsTrue negative ↔ (v.mantissa <ℤ pos 0) → binary (signed negative (nat_abs v.mantissa)) v.exponent ≡ v
signed_number negative v h = ap (λ m. binary m v.exponent) (signed-nat_abs negative v.mantissa h)

-- the numbers with the signs changed are the same
pub SameNumber-signed : (negative : Bool) (a b : ℕ) (j k : ℤ) → SameNumber (binary (pos a) j) (binary (pos b) k) → SameNumber (binary (signed negative a) j) (binary (signed negative b) k)
SameNumber-signed negative a b j k same =
    let t = int_min j k in
    signed-times negative a (two_to_difference j t) ∙ ap (λ n. signed negative n) (ap nat_abs same) ∙ sym (signed-times negative b (two_to_difference k t))

pub zero_of_abs : (z : ℤ) → nat_abs z ≡ 0 → z ≡ pos 0
zero_of_abs (pos n) e = ap pos e
zero_of_abs (negsuc n) e = absurd (omega arith)

-- a form at a lower exponent is the same number
pub SameNumber-lower : (n shift : ℕ) (t k : ℤ) → k ≡ t +ℤ pos shift → SameNumber (binary (pos (n * 2 ^ shift)) t) (binary (pos n) k)
SameNumber-lower n shift t k e =
    let x = binary (pos (n * 2 ^ shift)) t in
    let v = binary (pos n) k in
    let at : t ≤ℤ t = omega (arith, ints) in
    let high : t ≤ℤ k = omega (arith, ints) in
    let d : nat_abs (k -ℤ t) ≡ shift = omega (arith, ints) in
    SameNumber-from_scaled x v t at high (scaled_self x ∙ ap (λ i. pos (n * 2 ^ i)) (sym d))

-- a number without the zeros at its end
pub without_zeros-number : (negative : Bool) (n m : ℕ) (k e : ℤ) → 0 < n → n < 2 ^ 32 → m ≡ n / 2 ^ trailing_zeros w32 n → k ≡ e +ℤ pos (trailing_zeros w32 n) → SameNumber (binary (signed negative m) k) (binary (signed negative n) e)
without_zeros-number negative n m k e some small is sum =
    let zeros = trailing_zeros w32 n in
    let whole : m * 2 ^ zeros ≡ n = ap (λ i. i * 2 ^ zeros) is ∙ (without_zeros n some small).2 in
    let same = SameNumber-lower m zeros e k sum in
    let same' : SameNumber (binary (pos n) e) (binary (pos m) k) = subst (λ i. SameNumber (binary (pos i) e) (binary (pos m) k)) whole same in
    SameNumber-signed negative m n k e (SameNumber_sym (binary (pos n) e) (binary (pos m) k) same')

pub without_zeros-odd : (n m : ℕ) → 0 < n → n < 2 ^ 32 → m ≡ n / 2 ^ trailing_zeros w32 n → m % 2 ≡ 1
without_zeros-odd n m some small is = ap (λ i. i % 2) is ∙ (without_zeros n some small).1

-- the test of the sign
pub is_negative_iff : (z : ℤ) → IsTrue (is_negative z) ↔ (z <ℤ pos 0)
is_negative_iff z = (λ e. omega (arith, ints, e), λ h. sym (by_test (is_negative z) refl h))
  where
    by_test : (t : Bool) → is_negative z ≡ t → z <ℤ pos 0 → true ≡ t
    by_test true e h = refl
    by_test false e h = absurd (omega (arith, ints))

-- what the readers say of a number's parts
pub record HasParts (v : Binary) (negative : Bool) (m : ℕ) (k : ℤ) : Type 0 where
  pub sign : IsTrue negative ↔ (v.mantissa <ℤ pos 0)
  pub mantissa : m ≡ nat_abs v.mantissa
  pub exponent : k ≡ v.exponent

pub HasParts-number : (v : Binary) (negative : Bool) (m : ℕ) (k : ℤ) → HasParts v negative m k → binary (signed negative m) k ≡ v
HasParts-number v negative m k p =
    ap (λ n. binary (signed negative n) k) p.mantissa ∙ ap (λ e. binary (signed negative (nat_abs v.mantissa)) e) p.exponent ∙ signed_number negative v p.sign

-- the word of zero has no sign
pub HasParts-zero : (v : Binary) (negative : Bool) (m : ℕ) (k : ℤ) → HasParts v negative m k → v.mantissa ≡ pos 0 → ◌≡◌ {A = ℕ} (if negative then 1 else 0) 0
HasParts-zero v true m k p none = let l = p.sign.0 refl in absurd (omega (arith, ints))
HasParts-zero v false m k p none = refl
