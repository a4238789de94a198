-- Which numbers have a word of the IBM single form, and which word.
use Rattle.std.proofs.Common.{◌≡◌, ℕ, ◌+◌, ◌*◌, ◌/◌, ◌%◌, ◌^◌, ◌<◌, ◌≤◌, ◌⊎◌, ◌==◌, Bool, true, false, ℤ, pos, ◌+ℤ◌, ◌-ℤ◌, ◌≤ℤ◌, nat_abs, refl, sym, ap, ◌∙◌, subst, inl, inr, arith, if◌then◌else◌}
use Rattle.std.proofs.lemmas.Int.{ints}
use Rattle.std.proofs.lemmas.Bool.{false≢true}
use Rattle.grib_dyadic.specs.Length.{IsLength}
use Rattle.grib_dyadic.specs.Sign.{signed}
use Rattle.grib_dyadic.specs.Reference.{Binary, binary, with_sign, two_to_difference, ibm, ibm_a, ibm_b, SameNumber, IsReduced, HasIbmAt, HasIbm}
use Rattle.std.proofs.Math.Nat.{eq-zero-or-pos, le-mul_of_pos_right}
use Rattle.std.proofs.lemmas.Nat.{pow_pos}
use Rattle.std.specs.Int.{is_negative}
use Rattle.grib_dyadic.proofs.Numbers.{SameNumber_sym}
use Rattle.grib_dyadic.proofs.Reduced.{IsMultiple, IsZero, reduced_form, reduced_zero, IsMultiple-abs}
use Rattle.grib_dyadic.proofs.Signs.{nat_abs-signed, SameNumber-signed, SameNumber-lower, zero_of_abs, is_negative_iff, HasParts, HasParts-number}
use Rattle.grib_dyadic.proofs.Lengths.{IsLength-some, shifted_below, shifted_room}
use Rattle.grib_dyadic.proofs.Digits.{HasDigits-some}
use Rattle.grib_dyadic.proofs.Words.{IsIbmWord, IsIbmWord-reads, placed_ibm}

-- a number that a word stands for has one with the A of the word
pub HasIbmAt-of_word : (word : ℕ) (v : Binary) → word < 2 ^ 32 → IsReduced v → SameNumber v (ibm word) → (v.mantissa ≡ pos 0) ⊎ HasIbmAt (ibm_a word) v
HasIbmAt-of_word word v p red same = by (reduced_form v (ibm word) red same)
  where
    by : IsMultiple v (ibm word) ⊎ IsZero v (ibm word) → (v.mantissa ≡ pos 0) ⊎ HasIbmAt (ibm_a word) v
    by (inr z) = inl z.mantissa
    by (inl m) =
        let abs = IsMultiple-abs v (ibm word) m in
        let b = nat_abs-signed (word / 2 ^ 31 == 1) (ibm_b word) in
        let small : ibm_b word < 2 ^ 24 = omega arith in
        inr (record { multiple = m.exponent; within = omega (arith, small, abs, b) })

pub HasIbm-of_word : (word : ℕ) (v : Binary) → word < 2 ^ 32 → IsReduced v → SameNumber v (ibm word) → HasIbm v
HasIbm-of_word word v p red same = by (HasIbmAt-of_word word v p red same)
  where
    by : (v.mantissa ≡ pos 0) ⊎ HasIbmAt (ibm_a word) v → HasIbm v
    by (inl none) = inl none
    by (inr at) = inr (ibm_a word, omega arith, at)

-- ---- writing

-- where the digits of a number stand in the word for it
pub record IsIbmPlace (mantissa length shift a : ℕ) (exponent : ℤ) : Type 0 where
  pub bits : IsLength length mantissa
  pub room : length + shift ≤ 24
  pub in_range : a < 128
  pub from : exponent ≡ (pos (4 * a) -ℤ pos 280) +ℤ pos shift

pub IsIbmPlace-word : (m length shift a : ℕ) (k : ℤ) → IsIbmPlace m length shift a k → IsIbmWord (a * 2 ^ 24 + m * 2 ^ shift) 0 a (m * 2 ^ shift)
IsIbmPlace-word m length shift a k is = record {
  bits = omega arith;
  sign_bit = omega arith;
  in_range = is.in_range;
  below = shifted_below length m shift 24 is.bits is.room;
}

pub IsIbmPlace-a : (m length shift a : ℕ) (k : ℤ) → IsIbmPlace m length shift a k → ibm_a (a * 2 ^ 24 + m * 2 ^ shift) ≡ a
IsIbmPlace-a m length shift a k is =
    (IsIbmWord-reads (a * 2 ^ 24 + m * 2 ^ shift) 0 a (m * 2 ^ shift) (IsIbmPlace-word m length shift a k is)).a_is

pub IsIbmPlace-number : (m length shift a : ℕ) (k : ℤ) → IsIbmPlace m length shift a k → SameNumber (ibm (a * 2 ^ 24 + m * 2 ^ shift)) (binary (pos m) k)
IsIbmPlace-number m length shift a k is =
    let reads = IsIbmWord-reads (a * 2 ^ 24 + m * 2 ^ shift) 0 a (m * 2 ^ shift) (IsIbmPlace-word m length shift a k is) in
    subst (λ y. SameNumber y (binary (pos m) k)) (sym reads.number) (SameNumber-lower m shift (pos (4 * a) -ℤ pos 280) k is.from)

pub IsIbmPlace-HasIbm : (m length shift a : ℕ) (k : ℤ) → IsIbmPlace m length shift a k → HasIbm (binary (pos m) k)
IsIbmPlace-HasIbm m length shift a k is =
    let from = is.from in
    let d : nat_abs (k -ℤ (pos (4 * a) -ℤ pos 280)) ≡ shift = omega (arith, ints) in
    let low : (pos (4 * a) -ℤ pos 280) ≤ℤ k = omega (arith, ints) in
    inr (a, is.in_range, record { multiple = low; within = rw d (shifted_below length m shift 24 is.bits is.room) })

-- the bounds that a number with this A keeps, by its length
pub HasIbmAt-room : (m length a : ℕ) (k : ℤ) → IsLength length m → 0 < m → HasIbmAt a (binary (pos m) k) → ((pos (4 * a) -ℤ pos 280) ≤ℤ k) × ((pos length +ℤ k) ≤ℤ (pos (4 * a) -ℤ pos 256))
HasIbmAt-room m length a k l some has =
    let low = has.multiple in
    let room = shifted_room length m (nat_abs (k -ℤ (pos (4 * a) -ℤ pos 280))) 24 l some has.within in
    (low, omega (arith, ints))

signed_ibm_by : (sign magnitude m : ℕ) (k : ℤ) → sign < 2 → magnitude < 2 ^ 31 → SameNumber (ibm magnitude) (binary (pos m) k) → let word = sign * 2 ^ 31 + magnitude in (word < 2 ^ 32) × (ibm_a word ≡ ibm_a magnitude) × SameNumber (ibm word) (binary (with_sign sign m) k)
signed_ibm_by sign magnitude m k small p same =
    let a = ibm_a magnitude in
    let b = ibm_b magnitude in
    let w = sign * 2 ^ 31 + magnitude in
    let low : IsIbmWord magnitude 0 a b = record { bits = omega arith; sign_bit = omega arith; in_range = omega arith; below = omega arith } in
    let is : IsIbmWord w sign a b = record { bits = omega arith; sign_bit = small; in_range = omega arith; below = omega arith } in
    let read = IsIbmWord-reads magnitude 0 a b low in
    let read' = IsIbmWord-reads w sign a b is in
    let same' : SameNumber (placed_ibm 0 a b) (binary (pos m) k) = subst (λ y. SameNumber y (binary (pos m) k)) read.number same in (
      read'.in_word,
      read'.a_is,
      subst (λ y. SameNumber y (binary (with_sign sign m) k)) (sym read'.number) (SameNumber-signed (sign == 1) b m (pos (4 * a) -ℤ pos 280) k same'),
    )

-- a word with a sign bit before it
pub signed_ibm : (negative : Bool) (magnitude m : ℕ) (k : ℤ) → magnitude < 2 ^ 31 → SameNumber (ibm magnitude) (binary (pos m) k) → let word = (if negative then 1 else 0) * 2 ^ 31 + magnitude in (word < 2 ^ 32) × (ibm_a word ≡ ibm_a magnitude) × SameNumber (ibm word) (binary (signed negative m) k)
signed_ibm true magnitude m k p same = signed_ibm_by 1 magnitude m k (omega arith) p same
signed_ibm false magnitude m k p same = signed_ibm_by 0 magnitude m k (omega arith) p same

-- what is written
pub record WritesIbm (word m a : ℕ) (k : ℤ) : Type 0 where
  pub has : HasIbm (binary (pos m) k)
  pub unsigned : word < 2 ^ 31
  pub a_is : ibm_a word ≡ a
  pub number : SameNumber (ibm word) (binary (pos m) k)

pub IsIbmPlace-writes : (word m length shift a : ℕ) (k : ℤ) → IsIbmPlace m length shift a k → word ≡ a * 2 ^ 24 + m * 2 ^ shift → WritesIbm word m a k
IsIbmPlace-writes word m length shift a k is e =
    let w = IsIbmPlace-word m length shift a k is in
    let small = w.in_range in
    let below = w.below in
    record {
      has = IsIbmPlace-HasIbm m length shift a k is;
      unsigned = omega arith;
      a_is = ap (λ n. ibm_a n) e ∙ IsIbmPlace-a m length shift a k is;
      number = subst (λ n. SameNumber (ibm n) (binary (pos m) k)) (sym e) (IsIbmPlace-number m length shift a k is);
    }

-- ---- what the code computes: the least A for the number's length and exponent, and its digits there

module _ (m length a : ℕ) (k K P : ℤ) (some : 0 < m) (bits : IsLength length m) (K_is : K ≡ k) where
  pub writes_ibm : (digits word : ℕ) → (K +ℤ pos length) ≤ℤ (pos (4 * a) -ℤ pos 256) → P ≡ pos (4 * a) -ℤ pos 280 → a ≤ 127 → P ≤ℤ K → digits ≡ m * two_to_difference K P → word ≡ a * 2 ^ 24 % 2 ^ 32 + digits → WritesIbm word m a k
  writes_ibm digits word enough P_is small whole is e =
      let shift = nat_abs (K -ℤ P) in
      let from : k ≡ (pos (4 * a) -ℤ pos 280) +ℤ pos shift = omega (arith, ints) in
      let room : length + shift ≤ 24 = omega (arith, ints) in
      let at : IsIbmPlace m length shift a k = record { bits = bits; room = room; in_range = omega arith; from = from } in
      IsIbmPlace-writes word m length shift a k at (omega arith)

  pub least_ibm : ((b : ℕ) → (K +ℤ pos length) ≤ℤ (pos (4 * b) -ℤ pos 256) → a ≤ b) → (b : ℕ) → HasIbmAt b (binary (pos m) k) → a ≤ b
  least_ibm least b has = let room = HasIbmAt-room m length b k bits some has in least b (omega (arith, ints))

  pub no_ibm_past : ((b : ℕ) → (K +ℤ pos length) ≤ℤ (pos (4 * b) -ℤ pos 256) → a ≤ b) → 127 < a → HasIbm (binary (pos m) k) → ⊥
  no_ibm_past least high (inl none) = let e = ap nat_abs none in omega arith
  no_ibm_past least high (inr has) = omega (arith, least_ibm least has.0 has.2, has.1)

  pub no_ibm_digits : ((b : ℕ) → (K +ℤ pos length) ≤ℤ (pos (4 * b) -ℤ pos 256) → a ≤ b) → (K +ℤ pos length) ≤ℤ (pos (4 * a) -ℤ pos 256) → P ≡ pos (4 * a) -ℤ pos 280 → ((P ≤ℤ K) × (m * two_to_difference K P < 2 ^ 24) → false ≡ true) → HasIbm (binary (pos m) k) → ⊥
  no_ibm_digits least enough P_is absent (inl none) = let e = ap nat_abs none in omega arith
  no_ibm_digits least enough P_is absent (inr has) =
      let below = least_ibm least has.0 has.2 in
      let room = HasIbmAt-room m length has.0 k bits some has.2 in
      let whole : P ≤ℤ K = omega (arith, ints) in
      false≢true (absent (whole, HasDigits-some m length K P bits whole (omega (arith, ints))))

-- ---- a number by its parts

pub HasIbmAt-magnitude : (v : Binary) (m a : ℕ) (k : ℤ) → m ≡ nat_abs v.mantissa → k ≡ v.exponent → HasIbmAt a v → HasIbmAt a (binary (pos m) k)
HasIbmAt-magnitude v m a k e f has =
    let at : HasIbmAt a (binary (pos (nat_abs v.mantissa)) v.exponent) = record { multiple = has.multiple; within = has.within } in
    subst (λ n. HasIbmAt a (binary (pos n) k)) (sym e) (subst (λ j. HasIbmAt a (binary (pos (nat_abs v.mantissa)) j)) (sym f) at)

pub HasIbm-magnitude : (v : Binary) (m : ℕ) (k : ℤ) → m ≡ nat_abs v.mantissa → k ≡ v.exponent → HasIbm v → HasIbm (binary (pos m) k)
HasIbm-magnitude v m k e f (inl none) = inl (ap pos (e ∙ ap nat_abs none))
HasIbm-magnitude v m k e f (inr has) = inr (has.0, has.1, HasIbmAt-magnitude v m has.0 k e f has.2)

pub no_ibm_word : (v : Binary) (m : ℕ) (k : ℤ) → m ≡ nat_abs v.mantissa → k ≡ v.exponent → IsReduced v → (HasIbm (binary (pos m) k) → false ≡ true) → (x : ℕ) → x < 2 ^ 32 → ¬ (SameNumber (ibm x) v)
no_ibm_word v m k e f red none x p same =
    false≢true (none (HasIbm-magnitude v m k e f (HasIbm-of_word x v p red (SameNumber_sym (ibm x) v same))))

pub ibm_number : (v : Binary) (negative : Bool) (m magnitude word : ℕ) (k : ℤ) → HasParts v negative m k → magnitude < 2 ^ 31 → SameNumber (ibm magnitude) (binary (pos m) k) → word ≡ (if negative then 1 else 0) * 2 ^ 31 + magnitude → (ibm_a word ≡ ibm_a magnitude) × SameNumber (ibm word) v
ibm_number v negative m magnitude word k parts p same e =
    let s = signed_ibm negative magnitude m k p same in (
      ap (λ w. ibm_a w) e ∙ s.1,
      subst (λ w. SameNumber (ibm w) v) (sym e) (subst (λ y. SameNumber (ibm ((if negative then 1 else 0) * 2 ^ 31 + magnitude)) y) (HasParts-number v negative m k parts) s.2),
    )

pub ibm_least : (v : Binary) (m magnitude word : ℕ) (k : ℤ) → m ≡ nat_abs v.mantissa → k ≡ v.exponent → IsReduced v → ibm_a word ≡ ibm_a magnitude → (m ≡ 0 → magnitude ≡ 0) → ((a : ℕ) → 0 < m → HasIbmAt a (binary (pos m) k) → ibm_a magnitude ≤ a) → (x : ℕ) → x < 2 ^ 32 → SameNumber (ibm x) v → ibm_a word ≤ ibm_a x
ibm_least v m magnitude word k e f red a_is of_zero least x p same =
    by (eq-zero-or-pos m) (HasIbmAt-of_word x v p red (SameNumber_sym (ibm x) v same))
  where
    none : m ≡ 0 → ibm_a word ≤ ibm_a x
    none z = let low = of_zero z in omega arith

    by : (m ≡ 0) ⊎ (0 < m) → (v.mantissa ≡ pos 0) ⊎ HasIbmAt (ibm_a x) v → ibm_a word ≤ ibm_a x
    by (inl z) _ = none z
    by (inr some) (inl z) = none (e ∙ ap nat_abs z)
    by (inr some) (inr has) =
        let below = least (ibm_a x) some (HasIbmAt-magnitude v m (ibm_a x) k e f has) in
        omega arith

-- a number with the sizes has a word
pub ibm_word_of : (v : Binary) → IsReduced v → HasIbm v → (word : ℕ) × (word < 2 ^ 32) × SameNumber (ibm word) v
ibm_word_of v red has = by (eq-zero-or-pos (nat_abs v.mantissa)) has
  where
    of_zero : (word : ℕ) × (word < 2 ^ 32) × SameNumber (ibm word) (binary (pos 0) (pos 0))
    of_zero = (0, omega arith, refl)

    when_zero : v.mantissa ≡ pos 0 → (word : ℕ) × (word < 2 ^ 32) × SameNumber (ibm word) v
    when_zero none = subst (λ y. (word : ℕ) × (word < 2 ^ 32) × SameNumber (ibm word) y) (sym (reduced_zero v red none)) of_zero

    by : (nat_abs v.mantissa ≡ 0) ⊎ (0 < nat_abs v.mantissa) → HasIbm v → (word : ℕ) × (word < 2 ^ 32) × SameNumber (ibm word) v
    by (inl none) _ = when_zero (zero_of_abs v.mantissa none)
    by (inr some) (inl none) = when_zero none
    by (inr some) (inr at) =
        let m = nat_abs v.mantissa in
        let k = v.exponent in
        let a = at.0 in
        let small = at.1 in
        let less : m ≤ m * two_to_difference k (pos (4 * a) -ℤ pos 280) = le-mul_of_pos_right m (pow_pos (nat_abs (k -ℤ (pos (4 * a) -ℤ pos 280)))) in
        let l = IsLength-some 24 m (omega (arith, less, at.2.within)) in
        let room = HasIbmAt-room m l.0 a k l.1 some (HasIbmAt-magnitude v m a k refl refl at.2) in
        let p = pos (4 * a) -ℤ pos 280 in
        let digits = m * two_to_difference k p in
        let magnitude = a * 2 ^ 24 % 2 ^ 32 + digits in
        let w = writes_ibm m l.0 a k k p some l.1 refl digits magnitude (omega (arith, ints, room.1)) refl (omega arith) room.0 refl refl in
        let negative = is_negative v.mantissa in
        let parts : HasParts v negative m k = record { sign = is_negative_iff v.mantissa; mantissa = refl; exponent = refl } in
        let word = (if negative then 1 else 0) * 2 ^ 31 + magnitude in
        let s = signed_ibm negative magnitude m k w.unsigned w.number in
        (word, s.0, (ibm_number v negative m magnitude word k parts w.unsigned w.number refl).1)
