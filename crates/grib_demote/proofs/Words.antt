-- Which IBM word a binary32 word has.
use Rattle.std.proofs.Common.{◌≡◌, ℕ, zero, suc, ◌+◌, ◌*◌, ◌/◌, ◌%◌, ◌^◌, ◌<◌, ◌≤◌, ◌⊎◌, ◌==◌, Bool, true, false, cond, Option, Some, None, find, nat_lt, pos, neg_ℤ, ◌-ℤ◌, ◌*ℤ◌, ◌≤ℤ◌, nat_abs, refl, sym, ap, ◌∙◌, subst, arith, inl, inr, eqb-true, eq-eqb, ltb-true, lt-ltb, ne_eqb}
use Rattle.std.specs.Prelude.{IfSome, IfNone, option_map}
use Rattle.std.proofs.Math.Nat.{eq-zero-or-pos, mul-mod_left, mod-eq-sub-div-mul, div-mul-le_self, mul-div_cancel, mul-le-mul_right}
use Rattle.std.proofs.lemmas.Nat.{pow_pos, pow-add}
use Rattle.std.proofs.lemmas.Int.{ints}
use Rattle.std.proofs.lemmas.Bool.{cases_lt, and_from}
use Rattle.std.specs.List.{range_with_len}
use Rattle.grib_bits.specs.Binary32.{ieee_sign, ieee_exponent, ieee_fraction}
use Rattle.grib_bits.proofs.Logic.{left_true, right_true}
use Rattle.grib_bits.proofs.Arithmetic.{no_factor}
use Rattle.grib_dyadic.specs.Sign.{signed}
use Rattle.grib_dyadic.specs.Reference.{Binary, binary, with_sign, ieee, ibm, ibm_a, ibm_b, IsFinite, SameNumber}
use Rattle.grib_dyadic.proofs.Numbers.{scaled, SameNumber-scaled, SameNumber-from_scaled, SameNumber_sym, SameNumber_trans}
use Rattle.grib_dyadic.proofs.Reduced.{zero_of_zero}
use Rattle.grib_dyadic.proofs.Signs.{nat_abs-signed, signed-times}
use Rattle.grib_migrate.proofs.References.{found, found_is}
use Rattle.grib_demote.specs.Words.{magnitude, stands_at, ibm_at, ibm_of}

-- ---- the magnitude of a word, in units of 2 ^ -280

-- a finite word is a magnitude at a place of these units
abbrev parts : ℕ → Bool → Binary
parts word subnormal =
    cond subnormal (binary (with_sign (ieee_sign word) (ieee_fraction word)) (neg_ℤ (pos 149)))
    (binary (with_sign (ieee_sign word) (2 ^ 23 + ieee_fraction word)) (pos (ieee_exponent word) -ℤ pos 150))

abbrev units : ℕ → Bool → ℕ
units word subnormal = cond subnormal (ieee_fraction word * 2 ^ 131) ((2 ^ 23 + ieee_fraction word) * 2 ^ (ieee_exponent word + 130))

scaled_parts : (word : ℕ) (subnormal : Bool) → scaled (parts word subnormal) (neg_ℤ (pos 280)) ≡ signed (ieee_sign word == 1) (units word subnormal)
scaled_parts word true =
    let e : nat_abs (neg_ℤ (pos 149) -ℤ neg_ℤ (pos 280)) ≡ 131 = omega (arith, ints) in
    ap (λ k. signed (ieee_sign word == 1) (ieee_fraction word) *ℤ pos (2 ^ k)) e ∙ signed-times (ieee_sign word == 1) (ieee_fraction word) (2 ^ 131)
scaled_parts word false =
    let e : nat_abs ((pos (ieee_exponent word) -ℤ pos 150) -ℤ neg_ℤ (pos 280)) ≡ ieee_exponent word + 130 = omega (arith, ints) in
    ap (λ k. signed (ieee_sign word == 1) (2 ^ 23 + ieee_fraction word) *ℤ pos (2 ^ k)) e
    ∙ signed-times (ieee_sign word == 1) (2 ^ 23 + ieee_fraction word) (2 ^ (ieee_exponent word + 130))

scaled_ieee : (word : ℕ) → scaled (ieee word) (neg_ℤ (pos 280)) ≡ signed (ieee_sign word == 1) (magnitude word)
scaled_ieee word = scaled_parts word (ieee_exponent word == 0)

parts_low : (word : ℕ) (subnormal : Bool) → neg_ℤ (pos 280) ≤ℤ (parts word subnormal).exponent
parts_low word true = omega (arith, ints)
parts_low word false = omega (arith, ints)

ieee_low : (word : ℕ) → neg_ℤ (pos 280) ≤ℤ (ieee word).exponent
ieee_low word = parts_low word (ieee_exponent word == 0)

abbrev pub ibm_units : ℕ → ℕ
ibm_units x = ibm_b x * 2 ^ (4 * ibm_a x)

scaled_ibm : (x : ℕ) → scaled (ibm x) (neg_ℤ (pos 280)) ≡ signed (x / 2 ^ 31 == 1) (ibm_units x)
scaled_ibm x =
    let e : nat_abs ((pos (4 * ibm_a x) -ℤ pos 280) -ℤ neg_ℤ (pos 280)) ≡ 4 * ibm_a x = omega (arith, ints) in
    ap (λ k. signed (x / 2 ^ 31 == 1) (ibm_b x) *ℤ pos (2 ^ k)) e ∙ signed-times (x / 2 ^ 31 == 1) (ibm_b x) (2 ^ (4 * ibm_a x))

ibm_low : (x : ℕ) → neg_ℤ (pos 280) ≤ℤ (ibm x).exponent
ibm_low x = omega (arith, ints)

same_scaled : (word x : ℕ) → SameNumber (ibm x) (ieee word) → signed (x / 2 ^ 31 == 1) (ibm_units x) ≡ signed (ieee_sign word == 1) (magnitude word)
same_scaled word x same =
    sym (scaled_ibm x) ∙ SameNumber-scaled (ibm x) (ieee word) (neg_ℤ (pos 280)) (ibm_low x) (ieee_low word) same ∙ scaled_ieee word

scaled_same : (word x : ℕ) → signed (x / 2 ^ 31 == 1) (ibm_units x) ≡ signed (ieee_sign word == 1) (magnitude word) → SameNumber (ibm x) (ieee word)
scaled_same word x e =
    SameNumber-from_scaled (ibm x) (ieee word) (neg_ℤ (pos 280)) (ibm_low x) (ieee_low word) (scaled_ibm x ∙ e ∙ sym (scaled_ieee word))

-- of one magnitude that is not 0, the sign bit is one
sign_same : (s t n : ℕ) → s < 2 → t < 2 → 0 < n → signed (s == 1) n ≡ signed (t == 1) n → s ≡ t
sign_same zero zero n p q some e = refl
sign_same (suc zero) (suc zero) n p q some e = refl
sign_same zero (suc zero) n p q some e = absurd (omega (arith, ints, e))
sign_same (suc zero) zero n p q some e = absurd (omega (arith, ints, e))
sign_same (suc (suc s)) t n p q some e = absurd (omega arith)
sign_same s (suc (suc t)) n p q some e = absurd (omega arith)

-- ---- a word by its parts

abbrev word_of : ℕ → ℕ → ℕ → ℕ
word_of s a b = s * 2 ^ 31 + (a * 2 ^ 24 + b)

record Reads (s a b : ℕ) : Type 0 where
  in_word : word_of s a b < 2 ^ 32
  sign : word_of s a b / 2 ^ 31 ≡ s
  place : ibm_a (word_of s a b) ≡ a
  digits : ibm_b (word_of s a b) ≡ b

reads : (s a b : ℕ) → s < 2 → a < 128 → b < 2 ^ 24 → Reads s a b
reads s a b p q r = record { in_word = omega arith; sign = omega arith; place = omega arith; digits = omega arith }

rebuilt : (x : ℕ) → x < 2 ^ 32 → word_of (x / 2 ^ 31) (ibm_a x) (ibm_b x) ≡ x
rebuilt x small = omega arith

-- ---- where the magnitude stands

split : (a : ℕ) → 2 ^ (4 * a + 24) ≡ 2 ^ (4 * a) * 2 ^ 24
split a = pow-add 2 (4 * a) 24

stands_from : (n a b : ℕ) → b * 2 ^ (4 * a) ≡ n → b < 2 ^ 24 → stands_at n a ≡ true
stands_from n a b is low =
    let q = 2 ^ (4 * a) in
    let whole : n % q ≡ 0 = sym (ap (λ m. m % q) is) ∙ mul-mod_left b q in
    let step : suc b * q ≤ 2 ^ 24 * q = mul-le-mul_right q low in
    and_from (n % q == 0) (nat_lt n (2 ^ (4 * a + 24))) (eq-eqb (n % q) 0 whole) (lt-ltb n (2 ^ (4 * a + 24)) (by q is step (pow_pos (4 * a)) (split a)))
  where
    by : (q : ℕ) → b * q ≡ n → suc b * q ≤ 2 ^ 24 * q → 0 < q → 2 ^ (4 * a + 24) ≡ q * 2 ^ 24 → n < 2 ^ (4 * a + 24)
    by q is step some e = omega arith

record Stands (n a : ℕ) : Type 0 where
  whole : n / 2 ^ (4 * a) * 2 ^ (4 * a) ≡ n
  low : n / 2 ^ (4 * a) < 2 ^ 24

stands_is : (n a : ℕ) → stands_at n a ≡ true → Stands n a
stands_is n a e =
    let q = 2 ^ (4 * a) in
    let none = eqb-true (n % q) 0 (left_true (n % q == 0) (nat_lt n (2 ^ (4 * a + 24))) e) in
    let low = ltb-true n (2 ^ (4 * a + 24)) (right_true (n % q == 0) (nat_lt n (2 ^ (4 * a + 24))) e) in
    let times : n / q * q ≡ n = omega (arith, mod-eq-sub-div-mul n q, div-mul-le_self n q, none) in
    record { whole = times; low = below (n / q) q times (pow_pos (4 * a)) low (split a) }
  where
    below : (d q : ℕ) → d * q ≡ n → 0 < q → n < 2 ^ (4 * a + 24) → 2 ^ (4 * a + 24) ≡ q * 2 ^ 24 → d < 2 ^ 24
    below d q is some lt e = by (cases_lt d (2 ^ 24))
      where
        by : (d < 2 ^ 24) ⊎ (2 ^ 24 ≤ d) → d < 2 ^ 24
        by (inl h) = h
        by (inr h) = let more : 2 ^ 24 * q ≤ d * q = mul-le-mul_right q h in absurd (omega arith)

-- ---- a word for the number

pub record IsIbmFor (word x : ℕ) : Type 0 where
  pub in_word : x < 2 ^ 32
  pub number : SameNumber (ibm x) (ieee word)

-- the word with a place where the magnitude stands
placed : (word a : ℕ) → word < 2 ^ 32 → a < 128 → Stands (magnitude word) a → IsIbmFor word (ibm_at word a) × (ibm_a (ibm_at word a) ≡ a)
placed word a small lt is =
    let n = magnitude word in
    let b = n / 2 ^ (4 * a) in
    let sign : ieee_sign word < 2 = omega arith in
    let r = reads (ieee_sign word) a b sign lt is.low in
    let x = word_of (ieee_sign word) a b in
    let e : ibm_units x ≡ n = ap (λ d. d * 2 ^ (4 * ibm_a x)) r.digits ∙ ap (λ k. b * 2 ^ (4 * k)) r.place ∙ is.whole in (
      record {
        in_word = r.in_word;
        number = scaled_same word x (ap (λ s. signed (s == 1) (ibm_units x)) r.sign ∙ ap (λ m. signed (ieee_sign word == 1) m) e);
      },
      r.place,
    )

-- the word of a number that is not 0
pub record HasIbmWord (word x : ℕ) : Type 0 where
  pub units_are : ibm_units x ≡ magnitude word
  pub sign_is : x / 2 ^ 31 ≡ ieee_sign word

pub has_word : (word x : ℕ) → word < 2 ^ 32 → 0 < magnitude word → IsIbmFor word x → HasIbmWord word x
has_word word x small some is =
    let n = magnitude word in
    let e = same_scaled word x is.number in
    let units_are : ibm_units x ≡ n = sym (nat_abs-signed (x / 2 ^ 31 == 1) (ibm_units x)) ∙ ap nat_abs e ∙ nat_abs-signed (ieee_sign word == 1) n in
    let within = is.in_word in
    let low : x / 2 ^ 31 < 2 = omega arith in
    let sign : ieee_sign word < 2 = omega arith in
    record { units_are = units_are; sign_is = sign_same (x / 2 ^ 31) (ieee_sign word) n low sign some (ap (λ m. signed (x / 2 ^ 31 == 1) m) (sym units_are) ∙ e) }

-- ---- the word that is found

nonzero_is : (word : ℕ) → IsFinite word → 0 < magnitude word → ibm_of word ≡ option_map (ibm_at word) (find (stands_at (magnitude word)) (range_with_len 0 128))
nonzero_is word finite some =
    let n = magnitude word in
    let rest = option_map (ibm_at word) (find (stands_at n) (range_with_len 0 128)) in
    ap (λ b. cond b None (cond (n == 0) (Some 0) rest)) (ne_eqb (ieee_exponent word) 255 (λ z. omega arith))
    ∙ ap (λ b. cond b (Some 0) rest) (ne_eqb n 0 (λ z. omega arith))

-- the word with the least A is the one that is found
least_is : (word x : ℕ) → word < 2 ^ 32 → IsFinite word → 0 < magnitude word → IsIbmFor word x
    → ((y : ℕ) → y < 2 ^ 32 → SameNumber (ibm y) (ieee word) → ibm_a x ≤ ibm_a y) → ibm_of word ≡ Some x
least_is word x small finite some is least =
    let n = magnitude word in
    let has = has_word word x small some is in
    let a = ibm_a x in
    let in_place : a < 128 = omega arith in
    let few : ibm_b x < 2 ^ 24 = omega arith in
    let at : find (stands_at n) (range_with_len 0 128) ≡ Some a =
    found (stands_at n) 0 128 a (omega arith) (omega arith) (stands_from n a (ibm_b x) has.units_are few) (λ q low lt. not_lower q lt in_place (stands_at n q) refl) in
    let digits : n / 2 ^ (4 * a) ≡ ibm_b x = sym (ap (λ m. m / 2 ^ (4 * a)) has.units_are) ∙ mul-div_cancel (ibm_b x) (pow_pos (4 * a)) in
    let whole : ibm_at word a ≡ x =
    ap (λ b. ieee_sign word * 2 ^ 31 + (a * 2 ^ 24 + b)) digits ∙ ap (λ s. s * 2 ^ 31 + (a * 2 ^ 24 + ibm_b x)) (sym has.sign_is) ∙ rebuilt x is.in_word in
    nonzero_is word finite some ∙ ap (option_map (ibm_at word)) at ∙ ap Some whole
  where
    not_lower : (q : ℕ) → q < ibm_a x → ibm_a x < 128 → (b : Bool) → stands_at (magnitude word) q ≡ b → b ≡ false
    not_lower q lt high false e = refl
    not_lower q lt high true e =
        let p = placed word q small (omega arith) (stands_is (magnitude word) q e) in
        let le = least (ibm_at word q) p.0.in_word p.0.number in
        absurd (omega (arith, le, p.1))

-- what is found is a word for the number
pub found_stands : (word x : ℕ) → word < 2 ^ 32 → IsFinite word → 0 < magnitude word → ibm_of word ≡ Some x → IsIbmFor word x
found_stands word x small finite some e = by (find (stands_at (magnitude word)) (range_with_len 0 128)) refl (sym (nonzero_is word finite some) ∙ e)
  where
    by : (o : Option ℕ) → find (stands_at (magnitude word)) (range_with_len 0 128) ≡ o → option_map (ibm_at word) (find (stands_at (magnitude word)) (range_with_len 0 128)) ≡ Some x → IsIbmFor word x
    by None z is = cc (sym (ap (option_map (ibm_at word)) z) ∙ is)
    by (Some a) z is =
        let at = found_is (stands_at (magnitude word)) 0 128 a z in
        let same : ibm_at word a ≡ x = cc (sym (ap (option_map (ibm_at word)) z) ∙ is) in
        subst (λ y. IsIbmFor word y) same (placed word a small at.high (stands_is (magnitude word) a at.passes)).0

-- ---- zero

pub zero_is : (word : ℕ) → IsFinite word → magnitude word ≡ 0 → ibm_of word ≡ Some 0
zero_is word finite z =
    let rest = option_map (ibm_at word) (find (stands_at (magnitude word)) (range_with_len 0 128)) in
    ap (λ b. cond b None (cond (magnitude word == 0) (Some 0) rest)) (ne_eqb (ieee_exponent word) 255 (λ e. omega arith))
    ∙ ap (λ b. cond b (Some 0) rest) (eq-eqb (magnitude word) 0 z)

signed_zero : (b : Bool) → signed b 0 ≡ pos 0
signed_zero true = refl
signed_zero false = refl

zero_parts : (word : ℕ) (subnormal : Bool) → units word subnormal ≡ 0 → (parts word subnormal).mantissa ≡ pos 0
zero_parts word true z = ap (λ b. with_sign (ieee_sign word) b) (no_factor (ieee_fraction word) (2 ^ 131) (pow_pos 131) z) ∙ signed_zero (ieee_sign word == 1)
zero_parts word false z =
    ap (λ b. with_sign (ieee_sign word) b) (no_factor (2 ^ 23 + ieee_fraction word) (2 ^ (ieee_exponent word + 130)) (pow_pos (ieee_exponent word + 130)) z) ∙ signed_zero (ieee_sign word == 1)

zero_mantissa : (word : ℕ) → magnitude word ≡ 0 → (ieee word).mantissa ≡ pos 0
zero_mantissa word z = zero_parts word (ieee_exponent word == 0) z

-- ---- what the conversion answers

module _ (word : ℕ) (v : Binary) (small : word < 2 ^ 32) (finite : IsFinite word) (same : SameNumber v (ieee word)) where
  converted_some : 0 < magnitude word → (result : Option ℕ) → IfSome result (λ w. w < 2 ^ 32) → IfSome result (λ w. SameNumber (ibm w) v)
      → IfSome result (λ w. (x : ℕ) → x < 2 ^ 32 → SameNumber (ibm x) v → ibm_a w ≤ ibm_a x)
      → IfNone result ((x : ℕ) → x < 2 ^ 32 → ¬ (SameNumber (ibm x) v)) → result ≡ ibm_of word
  converted_some some (Some w) p number least none =
      sym (least_is word w small finite some (record { in_word = p; number = SameNumber_trans (ibm w) v (ieee word) number same })
      (λ y lt is. least y lt (SameNumber_trans (ibm y) (ieee word) v is (SameNumber_sym v (ieee word) same))))
  converted_some some None p number least none = by (ibm_of word) refl
    where
      by : (o : Option ℕ) → ibm_of word ≡ o → None ≡ ibm_of word
      by None e = sym e
      by (Some x) e =
          let is = found_stands word x small finite some e in
          absurd (none x is.in_word (SameNumber_trans (ibm x) (ieee word) v is.number (SameNumber_sym v (ieee word) same)))

  pub converted : (result : Option ℕ) → IfSome result (λ w. w < 2 ^ 32) → IfSome result (λ w. SameNumber (ibm w) v)
      → IfSome result (λ w. (x : ℕ) → x < 2 ^ 32 → SameNumber (ibm x) v → ibm_a w ≤ ibm_a x)
      → IfNone result ((x : ℕ) → x < 2 ^ 32 → ¬ (SameNumber (ibm x) v)) → (v.mantissa ≡ pos 0 → result ≡ Some 0) → result ≡ ibm_of word
  converted result p number least none of_zero = by (eq-zero-or-pos (magnitude word))
    where
      by : (magnitude word ≡ 0) ⊎ (0 < magnitude word) → result ≡ ibm_of word
      by (inl z) = of_zero (zero_of_zero (ieee word) v (zero_mantissa word z) (SameNumber_sym v (ieee word) same)) ∙ sym (zero_is word finite z)
      by (inr some) = converted_some some result p number least none

-- no word where there is no number
pub not_finite : (word : ℕ) → ieee_exponent word ≡ 255 → ibm_of word ≡ None
not_finite word e =
    let n = magnitude word in
    ap (λ b. cond b None (cond (n == 0) (Some 0) (option_map (ibm_at word) (find (stands_at n) (range_with_len 0 128))))) (eq-eqb (ieee_exponent word) 255 e)
