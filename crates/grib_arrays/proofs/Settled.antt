-- The word of a value, by its parts.
use Rattle.std.proofs.Common.{◌≡◌, ℕ, ◌^◌, ℤ, pos, ◌+ℤ◌, ◌-ℤ◌, ◌*ℤ◌, ◌≤ℤ◌, nat_abs, sym, ap, ◌∙◌, arith}
use Rattle.std.proofs.lemmas.Int.{ints, clamps}
use Rattle.std.specs.Int.{int_min}
use Rattle.grib_dyadic.specs.Reference.{Binary, binary, two_to_difference}
use Rattle.grib_dyadic.specs.Value.{Exact, value_of}
use Rattle.grib_dyadic.proofs.Numbers.{times_one}
use Rattle.grib_decimal.specs.Decimal.{or_0}
use Rattle.grib_nearest.specs.declared.format.Format.{Format}
use Rattle.grib_nearest.specs.Formats.{format_of}
use Rattle.grib_nearest.specs.Numbers.{word_of}
use Rattle.grib_arrays.specs.declared.scale.ArrayScale.{ArrayScale}
use Rattle.grib_arrays.specs.Scale.{IsScaleOf}
use Rattle.grib_arrays.specs.Values.{value_word}

-- the value with R and X * 2 ^ E as multiples of 2 ^ t
abbrev value_by : Binary → ℤ → ℤ → ℤ → ℤ → Exact
value_by r e d x t = record {
  number = (r.mantissa *ℤ pos (two_to_difference r.exponent t)) +ℤ (x *ℤ pos (two_to_difference e t));
  binary = t;
  decimal = d;
}

once : (z k : ℤ) → (z *ℤ pos (two_to_difference k k)) ≡ z
once z k = ap (λ n. z *ℤ pos (2 ^ n)) {x = nat_abs (k -ℤ k)} {y = 0} (omega (arith, ints)) ∙ times_one z

high_least : (k e : ℤ) → e ≤ℤ k → int_min k e ≡ e
high_least k e more = omega (arith, ints, clamps, more)

low_least : (k e : ℤ) → k ≤ℤ e → int_min k e ≡ k
low_least k e less = omega (arith, ints, clamps, less)

turned : (k e : ℤ) → nat_abs (k -ℤ e) ≡ nat_abs (e -ℤ k)
turned k e = omega (arith, ints)

swapped : (a b : ℤ) → (a +ℤ b) ≡ (b +ℤ a)
swapped a b = omega (arith, ints)

value_high : (f : Format) (r : Binary) (e d x n : ℤ) (gap : ℕ) → e ≤ℤ r.exponent → gap ≡ nat_abs (r.exponent -ℤ e) → n ≡ (r.mantissa *ℤ pos (2 ^ gap)) +ℤ x
    → word_of (format_of f) n e (or_0 (pos 0 -ℤ d)) (or_0 (d -ℤ pos 0)) ≡ value_word f (value_of r e d x)
value_high f r e d x n gap more gap_is is =
    let number : n ≡ (r.mantissa *ℤ pos (two_to_difference r.exponent e)) +ℤ (x *ℤ pos (two_to_difference e e)) =
    is ∙ ap (λ k. (r.mantissa *ℤ pos (2 ^ k)) +ℤ x) gap_is ∙ ap (λ y. (r.mantissa *ℤ pos (two_to_difference r.exponent e)) +ℤ y) (sym (once x e)) in
    ap (λ k. word_of (format_of f) k e (or_0 (pos 0 -ℤ d)) (or_0 (d -ℤ pos 0))) number ∙ sym (ap (λ t. value_word f (value_by r e d x t)) (high_least r.exponent e more))

value_low : (f : Format) (r : Binary) (e d x n : ℤ) (gap : ℕ) → r.exponent ≤ℤ e → gap ≡ nat_abs (r.exponent -ℤ e) → n ≡ (x *ℤ pos (2 ^ gap)) +ℤ r.mantissa
    → word_of (format_of f) n r.exponent (or_0 (pos 0 -ℤ d)) (or_0 (d -ℤ pos 0)) ≡ value_word f (value_of r e d x)
value_low f r e d x n gap less gap_is is =
    let number : n ≡ (r.mantissa *ℤ pos (two_to_difference r.exponent r.exponent)) +ℤ (x *ℤ pos (two_to_difference e r.exponent)) =
    is ∙ swapped (x *ℤ pos (2 ^ gap)) r.mantissa ∙ ap (λ k. r.mantissa +ℤ (x *ℤ pos (2 ^ k))) (gap_is ∙ turned r.exponent e)
    ∙ ap (λ y. y +ℤ (x *ℤ pos (two_to_difference e r.exponent))) (sym (once r.mantissa r.exponent)) in
    ap (λ k. word_of (format_of f) k r.exponent (or_0 (pos 0 -ℤ d)) (or_0 (d -ℤ pos 0))) number ∙ sym (ap (λ t. value_word f (value_by r e d x t)) (low_least r.exponent e less))

-- by the reference value and the scale factors that the scale is of
along : (s : ArrayScale) (f : Format) (r : Binary) (e d x : ℤ) → IsScaleOf s f r e d → value_word s.format (value_of (binary s.mantissa s.exponent) s.e d x) ≡ value_word f (value_of r e d x)
along s f r e d x is =
    ap (λ m. value_word s.format (value_of (binary m s.exponent) s.e d x)) is.mantissa
    ∙ ap (λ k. value_word s.format (value_of (binary r.mantissa k) s.e d x)) is.exponent
    ∙ ap (λ k. value_word s.format (value_of r k d x)) is.e_is
    ∙ ap (λ g. value_word g (value_of r e d x)) is.format

tens : (s : ArrayScale) (f : Format) (r : Binary) (e d n k : ℤ) → IsScaleOf s f r e d
    → word_of (format_of s.format) n k s.up s.down ≡ word_of (format_of s.format) n k (or_0 (pos 0 -ℤ d)) (or_0 (d -ℤ pos 0))
tens s f r e d n k is = ap (λ u. word_of (format_of s.format) n k u s.down) is.up ∙ ap (λ u. word_of (format_of s.format) n k (or_0 (pos 0 -ℤ d)) u) is.down

pub settled_high : (s : ArrayScale) (f : Format) (r : Binary) (e d x n : ℤ) (gap w : ℕ) → IsScaleOf s f r e d → s.e ≤ℤ s.exponent → gap ≡ nat_abs (s.exponent -ℤ s.e) → n ≡ (s.mantissa *ℤ pos (2 ^ gap)) +ℤ x
    → w ≡ word_of (format_of s.format) n s.e s.up s.down → w ≡ value_word f (value_of r e d x)
settled_high s f r e d x n gap w is more gap_is number word =
    word ∙ tens s f r e d n s.e is ∙ value_high s.format (binary s.mantissa s.exponent) s.e d x n gap more gap_is number ∙ along s f r e d x is

pub settled_low : (s : ArrayScale) (f : Format) (r : Binary) (e d x n : ℤ) (gap w : ℕ) → IsScaleOf s f r e d → s.exponent ≤ℤ s.e → gap ≡ nat_abs (s.exponent -ℤ s.e) → n ≡ (x *ℤ pos (2 ^ gap)) +ℤ s.mantissa
    → w ≡ word_of (format_of s.format) n s.exponent s.up s.down → w ≡ value_word f (value_of r e d x)
settled_low s f r e d x n gap w is less gap_is number word =
    word ∙ tens s f r e d n s.exponent is ∙ value_low s.format (binary s.mantissa s.exponent) s.e d x n gap less gap_is number ∙ along s f r e d x is
