-- What is worked out for a field gives the value of each point.
use Rattle.std.proofs.Common.{◌≡◌, ℕ, suc, ◌*◌, ◌^◌, ◌<◌, ◌≤◌, ◌⊎◌, inl, inr, true, false, Option, Some, None, IfSome, SomeIff, IsFalse, FitsSigned, ℤ, pos, negsuc, neg_ℤ, ◌+ℤ◌, ◌*ℤ◌, ◌-ℤ◌, ◌<ℤ◌, nat_abs, refl, sym, ap, subst, ◌∙◌, arith}
use Rattle.std.proofs.Math.Nat.{mul-pos, one-le-pow}
use Rattle.std.proofs.lemmas.Nat.{pow_pos}
use Rattle.std.proofs.lemmas.Bool.{cases_lt}
use Rattle.std.proofs.lemmas.Bool.Decides.{nat_tests}
use Rattle.std.proofs.lemmas.Int.{ints, clamps}
use Rattle.std.specs.Int.{w64, is_negative}
use Rattle.grib_bits.proofs.Arithmetic.{nat_abs-times}
use Rattle.grib_dyadic.specs.Reference.{Binary, two_to_difference}
use Rattle.grib_dyadic.specs.Value.{Exact, value_of}
use Rattle.grib_dyadic.proofs.Numbers.{times_one}
use Rattle.grib_decimal.specs.declared.rounded.Rounded.{Rounded}
use Rattle.grib_decimal.specs.Text as text
use Rattle.grib_decimal.specs.Decimal.{or_0, decimal_text, factor, numerator, denominator, is_too_large}
use Rattle.grib_decimal.specs.Rounding.{nearest}
use Rattle.grib_decimal.specs.Parts.{IsKnown, unit_of, base_of}
use Rattle.grib_decimal.specs.Rounded.{IsRounded}
use Rattle.grib_decimal.proofs.Roundings.{factor_some, small_fraction}

pub value_number : (r : Binary) (e d x shift : ℤ) → shift ≡ e -ℤ unit_of r e → base_of r e +ℤ (x *ℤ pos (2 ^ nat_abs shift)) ≡ (value_of r e d x).number
value_number r e d x shift is = ap (λ s. base_of r e +ℤ (x *ℤ pos (2 ^ nat_abs s))) is

same_exponent : (z k : ℤ) (most : ℕ) → nat_abs k ≡ 0 → nat_abs z ≤ most → nat_abs (z *ℤ pos (2 ^ nat_abs k)) ≤ most
same_exponent z k most none small =
    let e : z *ℤ pos (2 ^ nat_abs k) ≡ z = ap (λ n. z *ℤ pos (2 ^ n)) none ∙ times_one z in
    rw e small

pub small_number : (x : ℤ) → FitsSigned w64 x → nat_abs x ≤ 2 ^ 63
small_number x fits = omega (arith, ints)

-- R or X is the multiple of the power of two as it stands, so it is small
pub one_small : (r : Binary) (e x shift : ℤ) → shift ≡ e -ℤ unit_of r e → nat_abs r.mantissa < 2 ^ 24 → nat_abs x ≤ 2 ^ 63 → (nat_abs (base_of r e) ≤ 2 ^ 63) ⊎ (nat_abs (x *ℤ pos (2 ^ nat_abs shift)) ≤ 2 ^ 63)
one_small r e x shift is few small = elim (cases_lt (nat_abs (r.exponent -ℤ unit_of r e)) 1) [
  | inl l ↦
      let none : nat_abs (r.exponent -ℤ unit_of r e) ≡ 0 = omega arith in
      inl (same_exponent r.mantissa (r.exponent -ℤ unit_of r e) (2 ^ 63) none (omega arith))
  | inr g ↦
      let none : nat_abs shift ≡ 0 = omega (arith, ints, clamps) in
      inr (same_exponent x shift (2 ^ 63) none small)
]

negative_test : (z : ℤ) → z <ℤ pos 0 → is_negative z ≡ true
negative_test (pos n) less = absurd (omega (arith, ints))
negative_test (negsuc n) less = refl

not_negative : (n : ℕ) → is_negative (pos n) ≡ false
not_negative n = grind (arith, nat_tests)

is_negative-times : (z : ℤ) (k : ℕ) → 0 < k → is_negative (z *ℤ pos k) ≡ is_negative z
is_negative-times (pos n) k some = not_negative (n * k) ∙ sym (not_negative n)
is_negative-times (negsuc n) k some =
    let more : 0 < suc n * k = mul-pos (omega arith) some in
    let less : neg_ℤ (pos (suc n * k)) <ℤ pos 0 = omega (arith, ints) in
    negative_test (neg_ℤ (pos (suc n * k))) less

-- with a numerator and a denominator of 64 bits
pub rounded_quick : (v : Exact) (places : ℕ) (n : ℤ) (divisor : ℕ) (res : Rounded) → n ≡ v.number *ℤ pos (factor v.binary v.decimal places) → nat_abs n < 2 ^ 63 → divisor ≡ denominator v places → divisor < 2 ^ 63 → res.negative ≡ is_negative n → res.number ≡ nearest (nat_abs n) divisor → res.number ≤ 2 ^ 63 → IsFalse (is_too_large v places) × IsRounded v places res
rounded_quick v places n divisor res is small by few negative number low =
    let e : nat_abs n ≡ numerator v places = ap nat_abs is ∙ nat_abs-times v.number (factor v.binary v.decimal places) in
    let below : numerator v places < 2 ^ 126 = omega arith in
    let below' : denominator v places < 2 ^ 126 = omega arith in (
      small_fraction v places below below',
      record {
        negative_is = negative ∙ ap is_negative is ∙ is_negative-times v.number (factor v.binary v.decimal places) (factor_some v.binary v.decimal places);
        number_is = number ∙ ap (λ k. nearest k divisor) e ∙ ap (λ k. nearest (numerator v places) k) by;
        small = omega arith;
      },
    )

-- what is known is above 0 where the number is, and below the bound
pub some_known : (o : Option ℕ) (n : ℕ) → 0 < n → SomeIff o (n < 2 ^ 126) n → IfSome o (λ k. 0 < k)
some_known None n some is = tt
some_known (Some k) n some is = rw is.1 some

pub power_some : (a b : ℕ) → 0 < 2 ^ a * 10 ^ b
power_some a b = mul-pos (pow_pos a) (one-le-pow b 10 (omega arith))

pub power_along : (o : Option ℕ) (a b a' b' : ℤ) → a ≡ a' → b ≡ b' → SomeIff o (2 ^ or_0 a * 10 ^ or_0 b < 2 ^ 126) (2 ^ or_0 a * 10 ^ or_0 b) → SomeIff o (2 ^ or_0 a' * 10 ^ or_0 b' < 2 ^ 126) (2 ^ or_0 a' * 10 ^ or_0 b')
power_along o a b a' b' p q is =
    subst (λ (n : ℕ). SomeIff o (n < 2 ^ 126) n) (ap (λ z. 2 ^ or_0 z * 10 ^ or_0 b) p ∙ ap (λ z. 2 ^ or_0 a' * 10 ^ or_0 z) q) is

pub base_along : (o : Option ℤ) (r : Binary) (unit m difference : ℤ) → m ≡ r.mantissa → difference ≡ r.exponent -ℤ unit → IsKnown 127 o (m *ℤ pos (2 ^ nat_abs difference)) → IsKnown 127 o (r.mantissa *ℤ pos (two_to_difference r.exponent unit))
base_along o r unit m difference p q known =
    subst (λ z. IsKnown 127 o z) (ap (λ z. z *ℤ pos (2 ^ nat_abs difference)) p ∙ ap (λ z. r.mantissa *ℤ pos (2 ^ nat_abs z)) q) known

pub minus_is : (a b : ℤ) → a ≡ b → pos 0 -ℤ a ≡ neg_ℤ b
minus_is a b e = omega (arith, ints)

pub text_is : (v : Exact) (places : ℕ) (r : Rounded) → IsRounded v places r → text.decimal_text r.negative r.number places ≡ decimal_text v places
text_is v places r is =
    ap (λ b. text.decimal_text b r.number places) is.negative_is ∙ ap (λ n. text.decimal_text (is_negative v.number) n places) is.number_is
