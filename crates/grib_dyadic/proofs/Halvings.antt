-- The reduced form of a number, as it is computed.
use Rattle.std.proofs.Common.{◌≡◌, ℕ, zero, suc, ◌+◌, ◌*◌, ◌/◌, ◌%◌, ◌^◌, ◌<◌, ◌⊎◌, ◌==◌, cond, true, false, pos, ◌+ℤ◌, ◌*ℤ◌, nat_abs, refl, sym, ap, ◌∙◌, subst, inl, inr, arith, add-one}
use Rattle.std.proofs.Math.Nat.{pow-suc, mul_assoc, div-eq_of_eq-mul_left}
use Rattle.std.proofs.lemmas.Nat.{pow_pos}
use Rattle.std.proofs.lemmas.Bool.Decides.{eqb_tells}
use Rattle.std.specs.Int.{is_negative, int_min}
use Rattle.grib_bits.proofs.Arithmetic.{zero-times}
use Rattle.grib_dyadic.specs.Sign.{signed}
use Rattle.grib_dyadic.specs.Reference.{Binary, binary, two_to_difference, halvings, reduced, ieee, ibm, ibm_b, IsFinite, IsReduced, SameNumber}
use Rattle.grib_dyadic.proofs.Numbers.{SameNumber_trans}
use Rattle.grib_dyadic.proofs.Reduced.{reduced_once}
use Rattle.grib_dyadic.proofs.Signs.{nat_abs-signed, signed_number, is_negative_iff, zero_of_abs, SameNumber-signed, SameNumber-lower}
use Rattle.grib_dyadic.proofs.Words.{IsIeeeWord-some, IsIeeeWord-reads}

-- n is an odd number times 2 ^ k
pub record IsOddTimes (n k : ℕ) : Type 0 where
  pub factor : ℕ
  pub whole : n ≡ factor * 2 ^ k
  pub odd : factor % 2 ≡ 1

-- a number is halved until it is odd
halvings-odd : (most n : ℕ) → 0 < n → n < 2 ^ most → IsOddTimes n (halvings most n)
halvings-odd zero n some small = absurd (omega arith)
halvings-odd (suc most) n some small = by (halvings-odd most (n / 2)) (eqb_tells (n % 2) 1)
  where
    half : IsOddTimes (n / 2) (halvings most (n / 2)) → n % 2 ≡ 0 → IsOddTimes n (halvings most (n / 2) + 1)
    half h even =
        let k = halvings most (n / 2) in
        let two : n ≡ (n / 2) * 2 = omega arith in
        let e : n ≡ h.factor * 2 ^ (k + 1) = two ∙ ap (λ m. m * 2) h.whole ∙ mul_assoc h.factor (2 ^ k) 2 ∙ ap (λ m. h.factor * m) (sym (pow-suc 2 k)) ∙ ap (λ m. h.factor * 2 ^ m) (sym (add-one k)) in
        record { factor = h.factor; whole = e; odd = h.odd }

    by : (0 < n / 2 → n / 2 < 2 ^ most → IsOddTimes (n / 2) (halvings most (n / 2))) → ((n % 2 == 1) ≡ true) × (n % 2 ≡ 1) ⊎ ((n % 2 == 1) ≡ false) × (n % 2 ≡ 1 → ⊥) → IsOddTimes n (halvings (suc most) n)
    by _ (inl odd) = rw odd.0 (record { factor = n; whole = omega arith; odd = odd.1 })
    by of_half (inr even) =
        let twice = pow-suc 2 most in
        let none : n % 2 ≡ 0 = let e = even.1 in omega arith in
        rw even.0 (half (of_half (omega arith) (omega arith)) none)

-- the number with k halvings
abbrev halved : Binary → ℕ → Binary
halved v k =
    let magnitude = nat_abs v.mantissa in
    cond (magnitude == 0) (binary (pos 0) (pos 0)) (binary (signed (is_negative v.mantissa) (magnitude / 2 ^ k)) (v.exponent +ℤ pos k))

record IsReducedForm (v w : Binary) : Type 0 where
  is_reduced : IsReduced w
  same : SameNumber v w

halved-zero : (v : Binary) → nat_abs v.mantissa ≡ 0 → IsReducedForm v (binary (pos 0) (pos 0))
halved-zero v none =
    let zero' : Binary = binary (pos 0) (pos 0) in
    let t = int_min v.exponent zero'.exponent in
    let c = two_to_difference v.exponent t in
    let d = two_to_difference zero'.exponent t in
    record {
      is_reduced = inr (refl, refl);
      same = ap (λ m. m *ℤ pos c) (zero_of_abs v.mantissa none) ∙ zero-times c ∙ sym (zero-times d);
    }

halved-odd : (v : Binary) (k : ℕ) → IsOddTimes (nat_abs v.mantissa) k → IsReducedForm v (binary (signed (is_negative v.mantissa) (nat_abs v.mantissa / 2 ^ k)) (v.exponent +ℤ pos k))
halved-odd v k odd =
    let negative = is_negative v.mantissa in
    let n = nat_abs v.mantissa in
    let factor : n / 2 ^ k ≡ odd.factor = div-eq_of_eq-mul_left (pow_pos k) odd.whole in
    let lower = SameNumber-lower odd.factor k v.exponent (v.exponent +ℤ pos k) refl in
    let of_n = subst (λ m. SameNumber (binary (pos m) v.exponent) (binary (pos odd.factor) (v.exponent +ℤ pos k))) (sym odd.whole) lower in
    let with = SameNumber-signed negative n odd.factor v.exponent (v.exponent +ℤ pos k) of_n in
    let of_v = subst (λ x. SameNumber x (binary (signed negative odd.factor) (v.exponent +ℤ pos k))) (signed_number negative v (is_negative_iff v.mantissa)) with in
    rw factor (record { is_reduced = inl (ap (λ m. m % 2) (nat_abs-signed negative odd.factor) ∙ odd.odd); same = of_v })

halved-form : (v : Binary) (k : ℕ) → (0 < nat_abs v.mantissa → IsOddTimes (nat_abs v.mantissa) k) → IsReducedForm v (halved v k)
halved-form v k odd = by (eqb_tells (nat_abs v.mantissa) 0)
  where
    by : ((nat_abs v.mantissa == 0) ≡ true) × (nat_abs v.mantissa ≡ 0) ⊎ ((nat_abs v.mantissa == 0) ≡ false) × (nat_abs v.mantissa ≡ 0 → ⊥) → IsReducedForm v (halved v k)
    by (inl none) = rw none.0 (halved-zero v none.1)
    by (inr some) = rw some.0 (halved-odd v k (odd (let ne = some.1 in omega arith)))

reduced-form : (v : Binary) → nat_abs v.mantissa < 2 ^ 64 → IsReducedForm v (reduced v)
reduced-form v small =
    halved-form v (halvings 64 (nat_abs v.mantissa)) (λ some. halvings-odd 64 (nat_abs v.mantissa) some small)

-- a finite word's number has 24 bits
ieee-small : (word : ℕ) → word < 2 ^ 32 → IsFinite word → nat_abs (ieee word).mantissa < 2 ^ 64
ieee-small word small finite =
    let w = IsIeeeWord-some word small finite in
    let reads = IsIeeeWord-reads word w.0 w.1 w.2 w.3 in
    let is : nat_abs (ieee word).mantissa ≡ w.2 = ap (λ v. nat_abs v.mantissa) reads.number ∙ nat_abs-signed (w.0 == 1) w.2 in
    omega (arith, w.3.below)

-- a reduced number that is the number of a finite word
pub reduced-ieee : (word : ℕ) (d : Binary) → word < 2 ^ 32 → IsFinite word → IsReduced d → SameNumber d (ieee word) → d ≡ reduced (ieee word)
reduced-ieee word d small finite red same =
    let form = reduced-form (ieee word) (ieee-small word small finite) in
    reduced_once d (reduced (ieee word)) red form.is_reduced (SameNumber_trans d (ieee word) (reduced (ieee word)) same form.same)

-- the number of an IBM word has 24 bits
ibm-small : (word : ℕ) → nat_abs (ibm word).mantissa < 2 ^ 64
ibm-small word =
    let is : nat_abs (ibm word).mantissa ≡ ibm_b word = nat_abs-signed (word / 2 ^ 31 == 1) (ibm_b word) in
    let small : ibm_b word < 2 ^ 24 = omega arith in
    omega arith

-- a reduced number that is the number of an IBM word
pub reduced-ibm : (word : ℕ) (d : Binary) → IsReduced d → SameNumber d (ibm word) → d ≡ reduced (ibm word)
reduced-ibm word d red same =
    let form = reduced-form (ibm word) (ibm-small word) in
    reduced_once d (reduced (ibm word)) red form.is_reduced (SameNumber_trans d (ibm word) (reduced (ibm word)) same form.same)
