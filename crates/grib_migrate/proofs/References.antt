-- Which binary32 word an IBM word has.
use Rattle.std.proofs.Common.{◌≡◌, ℕ, zero, suc, ◌+◌, ◌-◌, ◌*◌, ◌/◌, ◌%◌, ◌^◌, ◌<◌, ◌≤◌, ◌⊎◌, ◌==◌, Bool, true, false, cond, Option, Some, None, find, nat_lt, pos, neg_ℤ, ◌-ℤ◌, ◌*ℤ◌, ◌≤ℤ◌, nat_abs, refl, sym, ap, ◌∙◌, subst, arith, inl, inr, eqb-true, eq-eqb, ltb-true, ltb-false, lt-ltb, le-ltb, ne_eqb}
use Rattle.std.proofs.Math.Nat.{eq-zero-or-pos, pow-le-pow_right, mul-mod_left, mod-eq-sub-div-mul, div-mul-le_self, mul-div_cancel, mul-le-mul_right}
use Rattle.std.proofs.lemmas.Nat.{pow_pos, pow-add, le-div}
use Rattle.std.proofs.lemmas.Int.{ints}
use Rattle.std.proofs.lemmas.Bool.{cases_lt}
use Rattle.std.specs.List.{range_with_len}
use Rattle.std.specs.Option.{option_and_then}
use Rattle.grib_dyadic.specs.Sign.{signed}
use Rattle.grib_dyadic.specs.Reference.{Binary, with_sign, ieee, ibm, ibm_a, ibm_b, IsFinite, SameNumber}
use Rattle.grib_dyadic.proofs.Numbers.{scaled, SameNumber-scaled, SameNumber-from_scaled, SameNumber_sym, SameNumber_trans}
use Rattle.grib_dyadic.proofs.Reduced.{zero_of_zero}
use Rattle.std.specs.Prelude.{IfSome, IfNone}
use Rattle.grib_dyadic.proofs.Signs.{nat_abs-signed, signed-times}
use Rattle.grib_dyadic.proofs.Words.{IsIeeeWord, IsIeeeWord-reads, IsIeeeWord-some, placed}
use Rattle.grib_migrate.specs.References.{magnitude, place_of, word_at, binary32_of}

-- ---- the first number that passes a test

found_by : (test : ℕ → Bool) (a k p : ℕ) → a ≤ p → test p ≡ true → ((q : ℕ) → a ≤ q → q < p → test q ≡ false)
    → (a < p → find test (range_with_len (a + 1) k) ≡ Some p) → (a < p) ⊎ (p ≤ a) → find test (range_with_len a (suc k)) ≡ Some p
found_by test a k p le passes_at fails_before rest (inl h) =
    ap (λ b. cond b (Some a) (find test (range_with_len (a + 1) k))) (fails_before a (omega arith) h) ∙ rest h
found_by test a k p le passes_at fails_before rest (inr h) =
    let e : a ≡ p = omega arith in
    ap (λ b. cond b (Some a) (find test (range_with_len (a + 1) k))) (ap test e ∙ passes_at) ∙ ap Some e

pub found : (test : ℕ → Bool) (a k p : ℕ) → a ≤ p → p < a + k → test p ≡ true → ((q : ℕ) → a ≤ q → q < p → test q ≡ false) → find test (range_with_len a k) ≡ Some p
found test a zero p le lt passes_at fails_before = absurd (omega arith)
found test a (suc k) p le lt passes_at fails_before =
    found_by test a k p le passes_at fails_before (λ h. found test (a + 1) k p (omega arith) (omega arith) passes_at (λ q g l. fails_before q (omega arith) l)) (cases_lt a p)

pub record IsFound (test : ℕ → Bool) (a k p : ℕ) : Type 0 where
  pub low : a ≤ p
  pub high : p < a + k
  pub passes : test p ≡ true
  pub first : (q : ℕ) → a ≤ q → q < p → test q ≡ false

found_more : (test : ℕ → Bool) (a k p q : ℕ) → test a ≡ false → IsFound test (a + 1) k p → a ≤ q → q < p → (q ≤ a) ⊎ (a < q) → test q ≡ false
found_more test a k p q fails_before is le lt (inl h) = let e : q ≡ a = omega arith in ap test e ∙ fails_before
found_more test a k p q fails_before is le lt (inr h) = is.first q (omega arith) lt

found_is_by : (test : ℕ → Bool) (a k p : ℕ) (b : Bool) → test a ≡ b → cond b (Some a) (find test (range_with_len (a + 1) k)) ≡ Some p
    → (find test (range_with_len (a + 1) k) ≡ Some p → IsFound test (a + 1) k p) → IsFound test a (suc k) p
found_is_by test a k p true e is rest =
    let same : a ≡ p = cc in
    record { low = omega arith; high = omega arith; passes = ap test (sym same) ∙ e; first = λ q le lt. absurd (omega arith) }
found_is_by test a k p false e is rest =
    let later = rest is in
    let l = later.low in
    let h = later.high in
    record { low = omega arith; high = omega arith; passes = later.passes; first = λ q le lt. found_more test a k p q e later le lt (cases q) }
  where
    cases : (q : ℕ) → (q ≤ a) ⊎ (a < q)
    cases q = swap (cases_lt a q)
      where
        swap : (a < q) ⊎ (q ≤ a) → (q ≤ a) ⊎ (a < q)
        swap (inl x) = inr x
        swap (inr x) = inl x

pub found_is : (test : ℕ → Bool) (a k p : ℕ) → find test (range_with_len a k) ≡ Some p → IsFound test a k p
found_is test a zero p e = cc
found_is test a (suc k) p e = found_is_by test a k p (test a) refl e (found_is test (a + 1) k p)

-- ---- the magnitude of a word, in units of 2 ^ -280

scaled_placed : (s p d : ℕ) → scaled (placed s p d) (neg_ℤ (pos 280)) ≡ signed (s == 1) (d * 2 ^ (p + 131))
scaled_placed s p d =
    let e : nat_abs ((pos p -ℤ pos 149) -ℤ neg_ℤ (pos 280)) ≡ p + 131 = omega (arith, ints) in
    ap (λ k. signed (s == 1) d *ℤ pos (2 ^ k)) e ∙ signed-times (s == 1) d (2 ^ (p + 131))

scaled_ibm : (word : ℕ) → scaled (ibm word) (neg_ℤ (pos 280)) ≡ signed (word / 2 ^ 31 == 1) (magnitude word)
scaled_ibm word =
    let e : nat_abs ((pos (4 * ibm_a word) -ℤ pos 280) -ℤ neg_ℤ (pos 280)) ≡ 4 * ibm_a word = omega (arith, ints) in
    ap (λ k. signed (word / 2 ^ 31 == 1) (ibm_b word) *ℤ pos (2 ^ k)) e ∙ signed-times (word / 2 ^ 31 == 1) (ibm_b word) (2 ^ (4 * ibm_a word))

placed_low : (p : ℕ) → neg_ℤ (pos 280) ≤ℤ (pos p -ℤ pos 149)
placed_low p = omega (arith, ints)

ibm_low : (word : ℕ) → neg_ℤ (pos 280) ≤ℤ (pos (4 * ibm_a word) -ℤ pos 280)
ibm_low word = omega (arith, ints)

same_scaled : (word s p d : ℕ) → SameNumber (placed s p d) (ibm word) → signed (s == 1) (d * 2 ^ (p + 131)) ≡ signed (word / 2 ^ 31 == 1) (magnitude word)
same_scaled word s p d same =
    sym (scaled_placed s p d) ∙ SameNumber-scaled (placed s p d) (ibm word) (neg_ℤ (pos 280)) (placed_low p) (ibm_low word) same ∙ scaled_ibm word

scaled_same : (word s p d : ℕ) → signed (s == 1) (d * 2 ^ (p + 131)) ≡ signed (word / 2 ^ 31 == 1) (magnitude word) → SameNumber (placed s p d) (ibm word)
scaled_same word s p d e =
    SameNumber-from_scaled (placed s p d) (ibm word) (neg_ℤ (pos 280)) (placed_low p) (ibm_low word) (scaled_placed s p d ∙ e ∙ sym (scaled_ibm word))

-- of one magnitude that is not 0, the sign bit is one
sign_same : (s t n : ℕ) → s < 2 → t < 2 → 0 < n → signed (s == 1) n ≡ signed (t == 1) n → s ≡ t
sign_same zero zero n p q some e = refl
sign_same (suc zero) (suc zero) n p q some e = refl
sign_same zero (suc zero) n p q some e = absurd (omega (arith, ints, e))
sign_same (suc zero) zero n p q some e = absurd (omega (arith, ints, e))
sign_same (suc (suc s)) t n p q some e = absurd (omega arith)
sign_same s (suc (suc t)) n p q some e = absurd (omega arith)

-- ---- a word for the number is the one that is found

-- the digits of a word at its place make this number, in units of 2 ^ -280
record HasDigits (n p d : ℕ) : Type 0 where
  is : d * 2 ^ (p + 131) ≡ n
  below : d < 2 ^ 24
  normal : (p ≡ 0) ⊎ (2 ^ 23 ≤ d)

split_24 : (p : ℕ) → 2 ^ (p + 155) ≡ 2 ^ 24 * 2 ^ (p + 131)
split_24 p = let e : p + 155 ≡ 24 + (p + 131) = omega arith in ap (λ k. 2 ^ k) e ∙ pow-add 2 24 (p + 131)

split_23 : (p : ℕ) → 2 ^ (p + 154) ≡ 2 ^ 23 * 2 ^ (p + 131)
split_23 p = let e : p + 154 ≡ 23 + (p + 131) = omega arith in ap (λ k. 2 ^ k) e ∙ pow-add 2 23 (p + 131)

digits_below : (n p d : ℕ) → HasDigits n p d → n < 2 ^ (p + 155)
digits_below n p d has =
    let step : suc d * 2 ^ (p + 131) ≤ 2 ^ 24 * 2 ^ (p + 131) = mul-le-mul_right (2 ^ (p + 131)) has.below in
    let some = pow_pos (p + 131) in
    by (2 ^ (p + 131)) has.is step some (split_24 p)
  where
    by : (q : ℕ) → d * q ≡ n → suc d * q ≤ 2 ^ 24 * q → 0 < q → 2 ^ (p + 155) ≡ 2 ^ 24 * q → n < 2 ^ (p + 155)
    by q is step some split = omega arith

not_lower : (n p d q : ℕ) → HasDigits n p d → q < p → 2 ^ (q + 155) ≤ n
not_lower n p d q has lt = by has.normal
  where
    by : (p ≡ 0) ⊎ (2 ^ 23 ≤ d) → 2 ^ (q + 155) ≤ n
    by (inl z) = absurd (omega arith)
    by (inr high) =
        let steps : q + 155 ≤ p + 154 = omega arith in
        let le : 2 ^ (q + 155) ≤ 2 ^ (p + 154) = pow-le-pow_right (omega arith) steps in
        let more : 2 ^ 23 * 2 ^ (p + 131) ≤ d * 2 ^ (p + 131) = mul-le-mul_right (2 ^ (p + 131)) high in
        omega (arith, split_23 p, has.is)

place_found : (n p d : ℕ) → p < 254 → HasDigits n p d → place_of n ≡ Some p
place_found n p d lt has =
    found (λ q. nat_lt n (2 ^ (q + 155))) 0 254 p (omega arith) (omega arith) (lt-ltb n (2 ^ (p + 155)) (digits_below n p d has))
    (λ q le l. le-ltb n (2 ^ (q + 155)) (not_lower n p d q has l))

div_exact : (d q n : ℕ) → 0 < q → d * q ≡ n → n / q ≡ d
div_exact d q n some e = sym (ap (λ m. m / q) e) ∙ mul-div_cancel d some

word_found : (word n p d : ℕ) → HasDigits n p d → word_at word n p ≡ Some (word / 2 ^ 31 * 2 ^ 31 + (p * 2 ^ 23 + d))
word_found word n p d has =
    let q = 2 ^ (p + 131) in
    let whole : n % q ≡ 0 = sym (ap (λ m. m % q) has.is) ∙ mul-mod_left d q in
    ap (λ b. cond b (Some (word / 2 ^ 31 * 2 ^ 31 + (p * 2 ^ 23 + n / q))) None) (eq-eqb (n % q) 0 whole)
    ∙ ap (λ m. Some (word / 2 ^ 31 * 2 ^ 31 + (p * 2 ^ 23 + m))) (div_exact d q n (pow_pos (p + 131)) has.is)

binary32_found : (word p d : ℕ) → 0 < magnitude word → p < 254 → HasDigits (magnitude word) p d
    → binary32_of word ≡ Some (word / 2 ^ 31 * 2 ^ 31 + (p * 2 ^ 23 + d))
binary32_found word p d some lt has =
    let n = magnitude word in
    ap (λ b. cond b (Some 0) (option_and_then (word_at word n) (place_of n))) (ne_eqb n 0 (λ z. omega arith))
    ∙ ap (λ o. option_and_then (word_at word n) o) (place_found n p d lt has) ∙ word_found word n p d has

-- a finite word for the number of an IBM word that is not 0
pub word_is : (word w : ℕ) → word < 2 ^ 32 → 0 < magnitude word → w < 2 ^ 32 → IsFinite w → SameNumber (ieee w) (ibm word) → binary32_of word ≡ Some w
word_is word w small some p finite same =
    let a = IsIeeeWord-some w p finite in
    let reads = IsIeeeWord-reads w a.0 a.1 a.2 a.3 in
    let e = same_scaled word a.0 a.1 a.2 (subst (λ x. SameNumber x (ibm word)) reads.number same) in
    let n = magnitude word in
    let is : a.2 * 2 ^ (a.1 + 131) ≡ n = sym (nat_abs-signed (a.0 == 1) (a.2 * 2 ^ (a.1 + 131))) ∙ ap nat_abs e ∙ nat_abs-signed (word / 2 ^ 31 == 1) n in
    let has : HasDigits n a.1 a.2 = record { is = is; below = a.3.below; normal = a.3.normal } in
    let sign : a.0 ≡ word / 2 ^ 31 = sign_same a.0 (word / 2 ^ 31) n a.3.sign_bit (omega arith) some (ap (λ m. signed (a.0 == 1) m) (sym is) ∙ e) in
    let bits = a.3.bits in
    let whole : word / 2 ^ 31 * 2 ^ 31 + (a.1 * 2 ^ 23 + a.2) ≡ w = omega arith in
    binary32_found word a.1 a.2 some a.3.in_range has ∙ ap Some whole

-- ---- what is found is a word for the number

pub record IsWordFor (word x : ℕ) : Type 0 where
  pub in_word : x < 2 ^ 32
  pub finite : IsFinite x
  pub number : SameNumber (ieee x) (ibm word)

module _ (word p : ℕ) (small : word < 2 ^ 32) (is : IsFound (λ q. nat_lt (magnitude word) (2 ^ (q + 155))) 0 254 p) (whole : magnitude word % 2 ^ (p + 131) ≡ 0) where
  found_word : IsWordFor word (word / 2 ^ 31 * 2 ^ 31 + (p * 2 ^ 23 + magnitude word / 2 ^ (p + 131)))
  found_word =
      let n = magnitude word in
      let q = 2 ^ (p + 131) in
      let some = pow_pos (p + 131) in
      let times : n / q * q ≡ n = omega (arith, mod-eq-sub-div-mul n q, div-mul-le_self n q, whole) in
      let top = ltb-true n (2 ^ (p + 155)) is.passes in
      let below : n / q < 2 ^ 24 = below_by (n / q) q n times some (omega (arith, split_24 p)) in
      let normal : (p ≡ 0) ⊎ (2 ^ 23 ≤ n / q) = normal_by (eq-zero-or-pos p) in
      let high = is.high in
      let sign : word / 2 ^ 31 < 2 = omega arith in
      let x = word / 2 ^ 31 * 2 ^ 31 + (p * 2 ^ 23 + n / q) in
      let w : IsIeeeWord x (word / 2 ^ 31) p (n / q) = record { bits = refl; sign_bit = sign; in_range = omega arith; below = below; normal = normal } in
      let reads = IsIeeeWord-reads x (word / 2 ^ 31) p (n / q) w in
      record {
        in_word = reads.in_word;
        finite = reads.finite;
        number = subst (λ y. SameNumber y (ibm word)) (sym reads.number) (scaled_same word (word / 2 ^ 31) p (n / q) (ap (λ m. signed (word / 2 ^ 31 == 1) m) times));
      }
    where
      below_by : (d q n : ℕ) → d * q ≡ n → 0 < q → n < 2 ^ 24 * q → d < 2 ^ 24
      below_by d q n e some lt = by_cases (cases_lt d (2 ^ 24))
        where
          by_cases : (d < 2 ^ 24) ⊎ (2 ^ 24 ≤ d) → d < 2 ^ 24
          by_cases (inl h) = h
          by_cases (inr h) = let more : 2 ^ 24 * q ≤ d * q = mul-le-mul_right q h in absurd (omega arith)

      normal_by : (p ≡ 0) ⊎ (0 < p) → (p ≡ 0) ⊎ (2 ^ 23 ≤ magnitude word / 2 ^ (p + 131))
      normal_by (inl z) = inl z
      normal_by (inr some) =
          let n = magnitude word in
          let q = 2 ^ (p + 131) in
          let before : 2 ^ (p - 1 + 155) ≤ n = ltb-false n (2 ^ (p - 1 + 155)) (is.first (p - 1) (omega arith) (omega arith)) in
          let e : p - 1 + 155 ≡ p + 154 = omega arith in
          let bound : 2 ^ 23 * q ≤ n = subst (λ k. k ≤ n) (ap (λ k. 2 ^ k) e ∙ split_23 p) before in
          inr (le-div (2 ^ 23) n q (pow_pos (p + 131)) bound)

pub word_exists : (word x : ℕ) → word < 2 ^ 32 → 0 < magnitude word → binary32_of word ≡ Some x → IsWordFor word x
word_exists word x small some e = at (place_of (magnitude word)) refl (sym (ap (λ b. cond b (Some 0) (option_and_then (word_at word (magnitude word)) (place_of (magnitude word)))) (ne_eqb (magnitude word) 0 (λ z. omega arith))) ∙ e)
  where
    value : (p : ℕ) (b : Bool) → (magnitude word % 2 ^ (p + 131) == 0) ≡ b → IsFound (λ q. nat_lt (magnitude word) (2 ^ (q + 155))) 0 254 p
        → cond b (Some (word / 2 ^ 31 * 2 ^ 31 + (p * 2 ^ 23 + magnitude word / 2 ^ (p + 131)))) None ≡ Some x → IsWordFor word x
    value p false z is e = cc
    value p true z is e =
        let same : word / 2 ^ 31 * 2 ^ 31 + (p * 2 ^ 23 + magnitude word / 2 ^ (p + 131)) ≡ x = cc in
        subst (λ y. IsWordFor word y) same (found_word word p small is (eqb-true (magnitude word % 2 ^ (p + 131)) 0 z))

    at : (o : Option ℕ) → place_of (magnitude word) ≡ o → option_and_then (word_at word (magnitude word)) o ≡ Some x → IsWordFor word x
    at None z e = cc
    at (Some p) z e = value p (magnitude word % 2 ^ (p + 131) == 0) refl (found_is (λ q. nat_lt (magnitude word) (2 ^ (q + 155))) 0 254 p z) e

-- ---- what the conversion answers

zero_mantissa : (word : ℕ) → magnitude word ≡ 0 → (ibm word).mantissa ≡ pos 0
zero_mantissa word z =
    let some = pow_pos (4 * ibm_a word) in
    let none : ibm_b word ≡ 0 = by (eq-zero-or-pos (ibm_b word)) in
    ap (λ b. with_sign (word / 2 ^ 31) b) none ∙ signed_zero (word / 2 ^ 31 == 1)
  where
    signed_zero : (b : Bool) → signed b 0 ≡ pos 0
    signed_zero true = refl
    signed_zero false = refl

    by : (ibm_b word ≡ 0) ⊎ (0 < ibm_b word) → ibm_b word ≡ 0
    by (inl e) = e
    by (inr h) =
        let more : 1 * 2 ^ (4 * ibm_a word) ≤ ibm_b word * 2 ^ (4 * ibm_a word) = mul-le-mul_right (2 ^ (4 * ibm_a word)) h in
        let some = pow_pos (4 * ibm_a word) in
        absurd (omega arith)

-- zero has the word 0
zero_stands : (word : ℕ) → magnitude word ≡ 0 → IsWordFor word 0
zero_stands word z = record {
  in_word = omega arith;
  finite = omega arith;
  number = scaled_same word 0 0 0 (sym (ap (λ n. signed (word / 2 ^ 31 == 1) n) z ∙ signed_zero (word / 2 ^ 31 == 1)));
}
  where
    signed_zero : (b : Bool) → signed b 0 ≡ pos 0
    signed_zero true = refl
    signed_zero false = refl

-- what is found is a finite word for the number
pub word_stands : (word x : ℕ) → word < 2 ^ 32 → binary32_of word ≡ Some x → IsWordFor word x
word_stands word x small e = by (eq-zero-or-pos (magnitude word))
  where
    by : (magnitude word ≡ 0) ⊎ (0 < magnitude word) → IsWordFor word x
    by (inl z) =
        let zero_is : Some 0 ≡ Some x =
        sym (ap (λ b. cond b (Some 0) (option_and_then (word_at word (magnitude word)) (place_of (magnitude word)))) (eq-eqb (magnitude word) 0 z)) ∙ e in
        let same : 0 ≡ x = cc in
        subst (λ y. IsWordFor word y) same (zero_stands word z)
    by (inr some) = word_exists word x small some e

module _ (word : ℕ) (v : Binary) (small : word < 2 ^ 32) (same : SameNumber v (ibm word)) where
  converted_some : 0 < magnitude word → (result : Option ℕ) → IfSome result (λ w. w < 2 ^ 32) → IfSome result (λ w. IsFinite w) → IfSome result (λ w. SameNumber (ieee w) v)
      → IfNone result ((x : ℕ) → x < 2 ^ 32 → IsFinite x → ¬ (SameNumber (ieee x) v)) → result ≡ binary32_of word
  converted_some some (Some w) p finite number none =
      sym (word_is word w small some p finite (SameNumber_trans (ieee w) v (ibm word) number same))
  converted_some some None p finite number none = by (binary32_of word) refl
    where
      by : (o : Option ℕ) → binary32_of word ≡ o → None ≡ binary32_of word
      by None e = sym e
      by (Some x) e =
          let is = word_exists word x small some e in
          absurd (none x is.in_word is.finite (SameNumber_trans (ieee x) (ibm word) v is.number (SameNumber_sym v (ibm word) same)))

  pub converted : (result : Option ℕ) → IfSome result (λ w. w < 2 ^ 32) → IfSome result (λ w. IsFinite w) → IfSome result (λ w. SameNumber (ieee w) v)
      → IfNone result ((x : ℕ) → x < 2 ^ 32 → IsFinite x → ¬ (SameNumber (ieee x) v)) → (v.mantissa ≡ pos 0 → result ≡ Some 0) → result ≡ binary32_of word
  converted result p finite number none of_zero = by (eq-zero-or-pos (magnitude word))
    where
      by : (magnitude word ≡ 0) ⊎ (0 < magnitude word) → result ≡ binary32_of word
      by (inl z) =
          of_zero (zero_of_zero (ibm word) v (zero_mantissa word z) (SameNumber_sym v (ibm word) same))
          ∙ sym (ap (λ b. cond b (Some 0) (option_and_then (word_at word (magnitude word)) (place_of (magnitude word)))) (eq-eqb (magnitude word) 0 z))
      by (inr some) = converted_some some result p finite number none
