-- A binary32 word that has an IBM word has that back.
use Rattle.std.proofs.Common.{◌≡◌, ◌≢◌, ◌⊎◌, ℕ, ◌+◌, ℤ, pos, neg_ℤ, ◌-ℤ◌, ◌*ℤ◌, ◌*◌, ◌^◌, ◌<◌, ◌==◌, Bool, true, false, cond, Some, None, refl, sym, ap, ◌∙◌, subst, arith, inl, inr}
use Rattle.std.specs.Int.{int_min}
use Rattle.std.proofs.Math.Nat.{eq-zero-or-pos}
use Rattle.std.proofs.lemmas.Nat.{pow_pos}
use Rattle.std.proofs.lemmas.Int.{ints}
use Rattle.std.proofs.lemmas.Bool.{cases_eq}
use Rattle.grib_bits.specs.Binary32.{ieee_sign, ieee_exponent, ieee_fraction}
use Rattle.grib_bits.proofs.Arithmetic.{no_factor}
use Rattle.grib_dyadic.specs.Sign.{signed}
use Rattle.grib_dyadic.specs.Reference.{IsFinite, SameNumber, binary, with_sign, two_to_difference, ieee, ibm}
use Rattle.grib_dyadic.proofs.Numbers.{SameNumber_sym}
use Rattle.grib_migrate.specs.References as migrate
use Rattle.grib_migrate.specs.References.{binary32_of}
use Rattle.grib_migrate.proofs.References.{word_is}
use Rattle.grib_demote.specs.Words.{ibm_of, magnitude}
use Rattle.grib_demote.proofs.Words.{not_finite, zero_is, found_stands, has_word}

none_some : (x : ℕ) → None ≡ Some x → ⊥
none_some x e = cc e

finite_from : (word x : ℕ) → ibm_of word ≡ Some x → IsFinite word
finite_from word x e = by (cases_eq (ieee_exponent word) 255)
  where
    by : (ieee_exponent word ≡ 255) ⊎ (ieee_exponent word ≢ 255) → IsFinite word
    by (inl same) = absurd (none_some x (sym (not_finite word same) ∙ e))
    by (inr other) = omega (arith, other)

-- ---- zero

zero_mantissa : (word : ℕ) → magnitude word ≡ 0 → (ieee word).mantissa ≡ pos 0
zero_mantissa word z = by (ieee_exponent word == 0) z
  where
    by : (b : Bool) → cond b (ieee_fraction word * 2 ^ 131) ((2 ^ 23 + ieee_fraction word) * 2 ^ (ieee_exponent word + 130)) ≡ 0
        → (cond b (binary (with_sign (ieee_sign word) (ieee_fraction word)) (neg_ℤ (pos 149)))
        (binary (with_sign (ieee_sign word) (2 ^ 23 + ieee_fraction word)) (pos (ieee_exponent word) -ℤ pos 150))).mantissa ≡ pos 0
    by true z = ap (λ (n : ℕ). with_sign (ieee_sign word) n) (no_factor (ieee_fraction word) (2 ^ 131) (pow_pos 131) z) ∙ no_sign (ieee_sign word == 1)
      where
        no_sign : (b : Bool) → signed b 0 ≡ pos 0
        no_sign true = refl
        no_sign false = refl
    by false z =
        let none = no_factor (2 ^ 23 + ieee_fraction word) (2 ^ (ieee_exponent word + 130)) (pow_pos (ieee_exponent word + 130)) z in
        absurd (omega (arith, none))

zero_number : (word : ℕ) → magnitude word ≡ 0 → SameNumber (ibm 0) (ieee word)
zero_number word z =
    let t = int_min (ibm 0).exponent (ieee word).exponent in
    zero_times (two_to_difference (ibm 0).exponent t) ∙ sym (ap (λ (m : ℤ). m *ℤ pos (two_to_difference (ieee word).exponent t)) (zero_mantissa word z) ∙ zero_times (two_to_difference (ieee word).exponent t))
  where
    zero_times : (n : ℕ) → pos 0 *ℤ pos n ≡ pos 0
    zero_times n = omega (arith, ints)

-- a word and the IBM word of it, which has a binary32 word
pub record ComesBack (word x : ℕ) : Type 0 where
  pub in_word : x < 2 ^ 32
  pub number : SameNumber (ibm x) (ieee word)
  pub back : ℕ
  pub is_back : binary32_of x ≡ Some back

same_some : (a b : ℕ) → Some a ≡ Some b → a ≡ b
same_some a b e = cc e

pub comes_back : (word x : ℕ) → word < 2 ^ 32 → ibm_of word ≡ Some x → ComesBack word x
comes_back word x small e = by (eq-zero-or-pos (magnitude word))
  where
    by : (magnitude word ≡ 0) ⊎ (0 < magnitude word) → ComesBack word x
    by (inl none) =
        let zero_x : 0 ≡ x = same_some 0 x (sym (zero_is word (finite_from word x e) none) ∙ e) in
        record {
          in_word = omega (arith, zero_x);
          number = subst (λ (y : ℕ). SameNumber (ibm y) (ieee word)) zero_x (zero_number word none);
          back = 0;
          is_back = ap binary32_of (sym zero_x);
        }
    by (inr some) =
        let finite = finite_from word x e in
        let is = found_stands word x small finite some e in
        let has = has_word word x small some is in
        let units : migrate.magnitude x ≡ magnitude word = has.units_are in
        record {
          in_word = is.in_word;
          number = is.number;
          back = word;
          is_back = word_is x word is.in_word (omega (arith, units, some)) small finite (SameNumber_sym (ibm x) (ieee word) is.number);
        }
