-- Which numbers have a binary32 word, and which word.
use Rattle.std.proofs.Common.{◌≡◌, ℕ, zero, suc, ◌+◌, ◌*◌, ◌%◌, ◌^◌, ◌<◌, ◌≤◌, ◌⊎◌, ◌==◌, Bool, true, false, ℤ, pos, neg_ℤ, ◌+ℤ◌, ◌-ℤ◌, ◌≤ℤ◌, nat_abs, refl, sym, ap, ◌∙◌, subst, inl, inr, arith, if◌then◌else◌}
use Rattle.std.proofs.Math.Nat.{eq-zero-or-pos, le-mul_of_pos_right, mul-le-mul_left, pow-le-pow_right}
use Rattle.std.proofs.lemmas.Nat.{pow_pos}
use Rattle.std.proofs.lemmas.Int.{ints, clamps}
use Rattle.std.specs.Int.{int_max, is_negative}
use Rattle.std.proofs.lemmas.Bool.{cases_lt, false≢true}
use Rattle.grib_dyadic.specs.Length.{IsLength}
use Rattle.grib_dyadic.specs.Sign.{signed}
use Rattle.grib_dyadic.specs.Reference.{Binary, binary, with_sign, two_to_difference, ieee, IsFinite, SameNumber, IsReduced, HasIeee}
use Rattle.grib_dyadic.proofs.Numbers.{SameNumber-scaled, scaled_self, SameNumber_sym, SameNumber_trans}
use Rattle.grib_dyadic.proofs.Reduced.{IsMultiple, IsZero, reduced_form, reduced_zero, IsMultiple-abs, zero_of_zero}
use Rattle.grib_dyadic.proofs.Signs.{nat_abs-signed, SameNumber-signed, SameNumber-lower, zero_of_abs, HasParts, HasParts-number, HasParts-zero, is_negative_iff}
use Rattle.grib_dyadic.proofs.Lengths.{IsLength-some, shifted_below, shifted_room, shifted_above}
use Rattle.grib_dyadic.proofs.Digits.{HasDigits-some}
use Rattle.grib_dyadic.proofs.Words.{IsIeeeWord, IsIeeeWord-reads, IsIeeeWord-some, placed}

-- zero has a word
HasIeee-zero : (v : Binary) → v ≡ binary (pos 0) (pos 0) → HasIeee v
HasIeee-zero v e =
    subst HasIeee (sym e) (record { digits = omega arith; multiple = omega (arith, ints); within = (0, omega arith, omega (arith, ints)) })

-- the bits of a reduced number and how far they stand to the left in a form of it
pub form_bits : (v x : Binary) → IsMultiple v x → nat_abs x.mantissa < 2 ^ 24 → 0 < nat_abs v.mantissa → (length : ℕ) × IsLength length (nat_abs v.mantissa) × (length + nat_abs (v.exponent -ℤ x.exponent) ≤ 24)
form_bits v x m below some =
    let d = nat_abs (v.exponent -ℤ x.exponent) in
    let abs = IsMultiple-abs v x m in
    let less : nat_abs v.mantissa ≤ nat_abs v.mantissa * 2 ^ d = le-mul_of_pos_right (nat_abs v.mantissa) (pow_pos d) in
    let l = IsLength-some 24 (nat_abs v.mantissa) (omega arith) in
    (l.0, l.1, shifted_room l.0 (nat_abs v.mantissa) d 24 l.1 some (omega arith))

-- a number that a finite word stands for has one
pub HasIeee-of_word : (word : ℕ) (v : Binary) → word < 2 ^ 32 → IsFinite word → IsReduced v → SameNumber v (ieee word) → HasIeee v
HasIeee-of_word word v p finite red same =
    let w = IsIeeeWord-some word p finite in
    let reads = IsIeeeWord-reads word w.0 w.1 w.2 w.3 in
    let x = placed w.0 w.1 w.2 in
    let same' = subst (λ y. SameNumber v y) reads.number same in
    let abs : nat_abs x.mantissa ≡ w.2 = nat_abs-signed (w.0 == 1) w.2 in
    by w.1 x refl w.3.in_range (omega (arith, w.3.below)) (eq-zero-or-pos (nat_abs v.mantissa)) (reduced_form v x red same')
  where
    by : (place : ℕ) (x : Binary) → x.exponent ≡ pos place -ℤ pos 149 → place < 254 → nat_abs x.mantissa < 2 ^ 24 → (nat_abs v.mantissa ≡ 0) ⊎ (0 < nat_abs v.mantissa) → IsMultiple v x ⊎ IsZero v x → HasIeee v
    by place x k small below (inl none) _ = HasIeee-zero v (reduced_zero v red (zero_of_abs v.mantissa none))
    by place x k small below (inr some) (inr z) = HasIeee-zero v (reduced_zero v red z.mantissa)
    by place x k small below (inr some) (inl m) =
        let le = m.exponent in
        let l = form_bits v x m below some in
        let room = l.2 in
        let holds = l.1.holds in
        let less : nat_abs v.mantissa < 2 ^ 24 = shift_none l.0 (omega arith) holds in
        record {
          digits = less;
          multiple = omega (arith, ints);
          within = (l.0, holds, omega (arith, ints));
        }
      where
        shift_none : (length : ℕ) → length ≤ 24 → nat_abs v.mantissa < 2 ^ length → nat_abs v.mantissa < 2 ^ 24
        shift_none length le h = let more : 2 ^ length ≤ 2 ^ 24 = pow-le-pow_right (omega arith) le in omega arith

-- ---- one word

-- of two words for one number, none has its last digit further to the right than the other, unless it is 0
same_place : (s p d s' p' d' : ℕ) → p < p' → (p' ≡ 0) ⊎ (2 ^ 23 ≤ d') → d < 2 ^ 24 → SameNumber (placed s p d) (placed s' p' d') → ⊥
same_place s p d s' p' d' lt normal below same =
    let x = placed s p d in
    let y = placed s' p' d' in
    let low : x.exponent ≤ℤ x.exponent = omega (arith, ints) in
    let high : x.exponent ≤ℤ y.exponent = omega (arith, ints) in
    let m : IsMultiple y x = record { exponent = high; mantissa = sym (scaled_self x) ∙ SameNumber-scaled x y x.exponent low high same } in
    let n = nat_abs (y.exponent -ℤ x.exponent) in
    let far : 1 ≤ n = omega (arith, ints) in
    let e : d ≡ d' * 2 ^ n = sym (nat_abs-signed (s == 1) d) ∙ IsMultiple-abs y x m ∙ ap (λ k. k * 2 ^ n) (nat_abs-signed (s' == 1) d') in
    let two : 2 ^ 1 ≤ 2 ^ n = pow-le-pow_right (omega arith) far in
    let more = mul-le-mul_left d' two in
    by (2 ^ n) normal more e
  where
    by : (q : ℕ) → (p' ≡ 0) ⊎ (2 ^ 23 ≤ d') → d' * 2 ^ 1 ≤ d' * q → d ≡ d' * q → ⊥
    by q (inl z) more e = omega arith
    by q (inr h) more e = omega arith

-- of one magnitude, the sign bit is one, unless it is 0
same_sign : (s s' d : ℕ) → s < 2 → s' < 2 → with_sign s d ≡ with_sign s' d → (s ≡ s') ⊎ (d ≡ 0)
same_sign s s' zero p q e = inr refl
same_sign zero zero (suc d) p q e = inl refl
same_sign zero (suc zero) (suc d) p q e = cc
same_sign (suc zero) zero (suc d) p q e = cc
same_sign (suc zero) (suc zero) (suc d) p q e = inl refl
same_sign (suc (suc s)) s' (suc d) p q e = absurd (omega arith)
same_sign s (suc (suc s')) (suc d) p q e = absurd (omega arith)

-- two forms of one number that have the same place
same_digits : (s d s' d' p : ℕ) → s < 2 → s' < 2 → SameNumber (placed s p d) (placed s' p d') → (d ≡ d') × ((s ≡ s') ⊎ (d ≡ 0))
same_digits s d s' d' p a b same =
    let x = placed s p d in
    let low : x.exponent ≤ℤ x.exponent = omega (arith, ints) in
    let e = sym (scaled_self x) ∙ SameNumber-scaled x (placed s' p d') x.exponent low low same ∙ scaled_self (placed s' p d') in
    let k : d ≡ d' = sym (nat_abs-signed (s == 1) d) ∙ ap nat_abs e ∙ nat_abs-signed (s' == 1) d' in
    (k, same_sign s s' d a b (e ∙ ap (λ n. with_sign s' n) (sym k)))

-- two words for one number are equal, unless the number is 0
pub ieee_once : (w x : ℕ) → w < 2 ^ 32 → IsFinite w → x < 2 ^ 32 → IsFinite x → SameNumber (ieee w) (ieee x) → (w ≡ x) ⊎ (((ieee w).mantissa ≡ pos 0) × ((ieee x).mantissa ≡ pos 0))
ieee_once w x p f q g same =
    let a = IsIeeeWord-some w p f in
    let b = IsIeeeWord-some x q g in
    let read = IsIeeeWord-reads w a.0 a.1 a.2 a.3 in
    let read' = IsIeeeWord-reads x b.0 b.1 b.2 b.3 in
    let same' = subst (λ y. SameNumber y (placed b.0 b.1 b.2)) read.number (subst (λ y. SameNumber (ieee w) y) read'.number same) in
    by a.0 a.1 a.2 b.0 b.1 b.2 a.3 b.3 read.number read'.number same' (cases_lt a.1 b.1) (cases_lt b.1 a.1)
  where
    by : (s i d s' i' d' : ℕ) → IsIeeeWord w s i d → IsIeeeWord x s' i' d' → ieee w ≡ placed s i d → ieee x ≡ placed s' i' d' → SameNumber (placed s i d) (placed s' i' d')
        → (i < i') ⊎ (i' ≤ i) → (i' < i) ⊎ (i ≤ i') → (w ≡ x) ⊎ (((ieee w).mantissa ≡ pos 0) × ((ieee x).mantissa ≡ pos 0))
    by s i d s' i' d' a b n n' same (inl lt) _ = absurd (same_place s i d s' i' d' lt b.normal a.below same)
    by s i d s' i' d' a b n n' same (inr le) (inl gt) =
        absurd (same_place s' i' d' s i d gt a.normal b.below (SameNumber_sym (placed s i d) (placed s' i' d') same))
    by s i d s' i' d' a b n n' same (inr le) (inr ge) =
        let e : i' ≡ i = omega arith in
        let t = same_digits s d s' d' i a.sign_bit b.sign_bit (subst (λ j. SameNumber (placed s i d) (placed s' j d')) e same) in
        last t.0 t.1
      where
        last : d ≡ d' → (s ≡ s') ⊎ (d ≡ 0) → (w ≡ x) ⊎ (((ieee w).mantissa ≡ pos 0) × ((ieee x).mantissa ≡ pos 0))
        last k (inl j) = inl (omega arith)
        last k (inr z) = inr (none w s i d n z, none x s' i' d' n' (sym k ∙ z))
          where
            none : (v r h c : ℕ) → ieee v ≡ placed r h c → c ≡ 0 → (ieee v).mantissa ≡ pos 0
            none v r h c m z = ap (λ y. y.mantissa) m ∙ zero_of_abs (with_sign r c) (nat_abs-signed (r == 1) c ∙ z)

-- ---- writing

-- where the digits of a number stand in the word for it
pub record IsIeeePlace (mantissa length shift place : ℕ) (exponent : ℤ) : Type 0 where
  pub some : 0 < mantissa
  pub bits : IsLength length mantissa
  pub room : length + shift ≤ 24
  pub normal : (place ≡ 0) ⊎ (length + shift ≡ 24)
  pub in_range : place < 254
  pub from : exponent ≡ (pos place -ℤ pos 149) +ℤ pos shift

pub IsIeeePlace-word : (m length shift place : ℕ) (k : ℤ) → IsIeeePlace m length shift place k → IsIeeeWord (place * 2 ^ 23 + m * 2 ^ shift) 0 place (m * 2 ^ shift)
IsIeeePlace-word m length shift place k is = record {
  bits = omega arith;
  sign_bit = omega arith;
  in_range = is.in_range;
  below = shifted_below length m shift 24 is.bits is.room;
  normal = by is.normal;
}
  where
    by : (place ≡ 0) ⊎ (length + shift ≡ 24) → (place ≡ 0) ⊎ (2 ^ 23 ≤ m * 2 ^ shift)
    by (inl z) = inl z
    by (inr e) = inr (shifted_above length m shift 23 is.bits is.some e)

pub IsIeeePlace-number : (m length shift place : ℕ) (k : ℤ) → IsIeeePlace m length shift place k → SameNumber (ieee (place * 2 ^ 23 + m * 2 ^ shift)) (binary (pos m) k)
IsIeeePlace-number m length shift place k is =
    let reads = IsIeeeWord-reads (place * 2 ^ 23 + m * 2 ^ shift) 0 place (m * 2 ^ shift) (IsIeeePlace-word m length shift place k is) in
    subst (λ y. SameNumber y (binary (pos m) k)) (sym reads.number) (SameNumber-lower m shift (pos place -ℤ pos 149) k is.from)

pub IsIeeePlace-HasIeee : (m length shift place : ℕ) (k : ℤ) → IsIeeePlace m length shift place k → HasIeee (binary (pos m) k)
IsIeeePlace-HasIeee m length shift place k is =
    let holds = is.bits.holds in
    let from = is.from in
    let room = is.room in
    let small = is.in_range in
    let le : length ≤ 24 = omega arith in
    let more : 2 ^ length ≤ 2 ^ 24 = pow-le-pow_right (omega arith) le in
    record { digits = omega arith; multiple = omega (arith, ints); within = (length, holds, omega (arith, ints)) }

-- the bounds that a number with a word keeps, by its length
pub HasIeee-room : (m length : ℕ) (k : ℤ) → IsLength length m → 0 < m → HasIeee (binary (pos m) k) → (length ≤ 24) × (neg_ℤ (pos 149) ≤ℤ k) × ((pos length +ℤ k) ≤ℤ pos 128)
HasIeee-room m length k l some has =
    let w = has.within in
    let bound : length + 0 ≤ w.0 = shifted_room length m 0 w.0 l some (omega (arith, w.1)) in
    let all : length + 0 ≤ 24 = shifted_room length m 0 24 l some (omega (arith, has.digits)) in
    let top = w.2 in
    (omega arith, has.multiple, omega (arith, ints))

signed_ieee_by : (sign magnitude m : ℕ) (k : ℤ) → sign < 2 → magnitude < 2 ^ 31 → IsFinite magnitude → SameNumber (ieee magnitude) (binary (pos m) k) → let word = sign * 2 ^ 31 + magnitude in (word < 2 ^ 32) × IsFinite word × SameNumber (ieee word) (binary (with_sign sign m) k)
signed_ieee_by sign magnitude m k small p finite same =
    let a = IsIeeeWord-some magnitude (omega arith) finite in
    let read = IsIeeeWord-reads magnitude a.0 a.1 a.2 a.3 in
    let bits = a.3.bits in
    let none : a.0 ≡ 0 = omega arith in
    let w = sign * 2 ^ 31 + magnitude in
    let is : IsIeeeWord w sign a.1 a.2 = record { bits = omega arith; sign_bit = small; in_range = a.3.in_range; below = a.3.below; normal = a.3.normal } in
    let read' = IsIeeeWord-reads w sign a.1 a.2 is in
    let j = pos a.1 -ℤ pos 149 in
    let same' : SameNumber (placed 0 a.1 a.2) (binary (pos m) k) = subst (λ s. SameNumber (placed s a.1 a.2) (binary (pos m) k)) none (subst (λ y. SameNumber y (binary (pos m) k)) read.number same) in (
      read'.in_word,
      read'.finite,
      subst (λ y. SameNumber y (binary (with_sign sign m) k)) (sym read'.number) (SameNumber-signed (sign == 1) a.2 m j k same'),
    )

-- a word with a sign bit before it
pub signed_ieee : (negative : Bool) (magnitude m : ℕ) (k : ℤ) → magnitude < 2 ^ 31 → IsFinite magnitude → SameNumber (ieee magnitude) (binary (pos m) k) → let word = (if negative then 1 else 0) * 2 ^ 31 + magnitude in (word < 2 ^ 32) × IsFinite word × SameNumber (ieee word) (binary (signed negative m) k)
signed_ieee true magnitude m k p finite same = signed_ieee_by 1 magnitude m k (omega arith) p finite same
signed_ieee false magnitude m k p finite same = signed_ieee_by 0 magnitude m k (omega arith) p finite same

-- what is written
pub record WritesIeee (word m : ℕ) (k : ℤ) : Type 0 where
  pub has : HasIeee (binary (pos m) k)
  pub unsigned : word < 2 ^ 31
  pub finite : IsFinite word
  pub number : SameNumber (ieee word) (binary (pos m) k)

pub IsIeeePlace-writes : (word m length shift place : ℕ) (k : ℤ) → IsIeeePlace m length shift place k → word ≡ place * 2 ^ 23 + m * 2 ^ shift → WritesIeee word m k
IsIeeePlace-writes word m length shift place k is e =
    let w = IsIeeePlace-word m length shift place k is in
    let small = w.in_range in
    let below = w.below in
    record {
      has = IsIeeePlace-HasIeee m length shift place k is;
      unsigned = omega arith;
      finite = subst IsFinite (sym e) (IsIeeeWord-reads (place * 2 ^ 23 + m * 2 ^ shift) 0 place (m * 2 ^ shift) w).finite;
      number = subst (λ n. SameNumber (ieee n) (binary (pos m) k)) (sym e) (IsIeeePlace-number m length shift place k is);
    }

-- ---- what the code computes: the place for the number's length and exponent, and its digits there

module _ (m length place : ℕ) (k K P : ℤ) (some : 0 < m) (bits : IsLength length m) (place_is : pos place ≡ int_max (K +ℤ pos length +ℤ pos 125) (pos 0)) (K_is : K ≡ k) where
  pub writes_ieee : (digits word : ℕ) → P ≡ pos place -ℤ pos 149 → place ≤ 253 → P ≤ℤ K → digits ≡ m * two_to_difference K P → word ≡ place * 2 ^ 23 % 2 ^ 32 + digits → WritesIeee word m k
  writes_ieee digits word P_is small whole is e =
      let shift = nat_abs (K -ℤ P) in
      let from : k ≡ (pos place -ℤ pos 149) +ℤ pos shift = omega (arith, ints) in
      let room : length + shift ≤ 24 = omega (arith, ints, clamps) in
      let normal : (place ≡ 0) ⊎ (length + shift ≡ 24) = by (cases_lt 0 place) in
      let at : IsIeeePlace m length shift place k = record { some = some; bits = bits; room = room; normal = normal; in_range = omega arith; from = from } in
      IsIeeePlace-writes word m length shift place k at (omega arith)
    where
      by : (0 < place) ⊎ (place ≤ 0) → (place ≡ 0) ⊎ (length + nat_abs (K -ℤ P) ≡ 24)
      by (inl high) = inr (omega (arith, ints, clamps))
      by (inr low) = inl (omega arith)

  pub no_ieee_past : 253 < place → HasIeee (binary (pos m) k) → ⊥
  no_ieee_past high has = let room = HasIeee-room m length k bits some has in omega (arith, ints, clamps)

  pub no_ieee_digits : P ≡ pos place -ℤ pos 149 → ((P ≤ℤ K) × (m * two_to_difference K P < 2 ^ 24) → false ≡ true) → HasIeee (binary (pos m) k) → ⊥
  no_ieee_digits P_is none has =
      let room = HasIeee-room m length k bits some has in
      let whole : P ≤ℤ K = omega (arith, ints, clamps) in
      let e = none (whole, HasDigits-some m length K P bits whole (omega (arith, ints, clamps))) in
      false≢true e

-- ---- a number by its parts

-- the sizes are those of the magnitude
pub HasIeee-magnitude : (v : Binary) (m : ℕ) (k : ℤ) → m ≡ nat_abs v.mantissa → k ≡ v.exponent → HasIeee v → HasIeee (binary (pos m) k)
HasIeee-magnitude v m k e f has =
    let at : HasIeee (binary (pos (nat_abs v.mantissa)) v.exponent) = record { digits = has.digits; multiple = has.multiple; within = has.within } in
    subst (λ n. HasIeee (binary (pos n) k)) (sym e) (subst (λ j. HasIeee (binary (pos (nat_abs v.mantissa)) j)) (sym f) at)

pub no_ieee_word : (v : Binary) (m : ℕ) (k : ℤ) → m ≡ nat_abs v.mantissa → k ≡ v.exponent → IsReduced v → (HasIeee (binary (pos m) k) → false ≡ true) → (x : ℕ) → x < 2 ^ 32 → IsFinite x → ¬ (SameNumber (ieee x) v)
no_ieee_word v m k e f red none x p finite same =
    false≢true (none (HasIeee-magnitude v m k e f (HasIeee-of_word x v p finite red (SameNumber_sym (ieee x) v same))))

-- the word stands for the number
pub record IsWordOf (word : ℕ) (v : Binary) : Type 0 where
  pub in_word : word < 2 ^ 32
  pub finite : IsFinite word
  pub number : SameNumber (ieee word) v

pub IsWordOf-parts : (v : Binary) (negative : Bool) (m magnitude word : ℕ) (k : ℤ) → HasParts v negative m k → magnitude < 2 ^ 31 → IsFinite magnitude → SameNumber (ieee magnitude) (binary (pos m) k) → word ≡ (if negative then 1 else 0) * 2 ^ 31 + magnitude → IsWordOf word v
IsWordOf-parts v negative m magnitude word k parts p finite same e =
    let s = signed_ieee negative magnitude m k p finite same in
    let P : ℕ → Type 0 = λ w. IsWordOf w v in
    subst P (sym e) (record { in_word = s.0; finite = s.1; number = subst (λ y. SameNumber (ieee ((if negative then 1 else 0) * 2 ^ 31 + magnitude)) y) (HasParts-number v negative m k parts) s.2 })

-- no other word does, but for minus zero
pub IsWordOf-only : (v : Binary) (negative : Bool) (m magnitude word : ℕ) (k : ℤ) → HasParts v negative m k → IsWordOf word v → word ≡ (if negative then 1 else 0) * 2 ^ 31 + magnitude → (m ≡ 0 → magnitude ≡ 0) → (x : ℕ) → x < 2 ^ 32 → IsFinite x → SameNumber (ieee x) v → (x ≡ word) ⊎ ((v.mantissa ≡ pos 0) × (word ≡ 0))
IsWordOf-only v negative m magnitude word k parts is e of_zero x p finite same =
    by (ieee_once word x is.in_word is.finite p finite (SameNumber_trans (ieee word) v (ieee x) is.number (SameNumber_sym (ieee x) v same)))
  where
    by : (word ≡ x) ⊎ (((ieee word).mantissa ≡ pos 0) × ((ieee x).mantissa ≡ pos 0)) → (x ≡ word) ⊎ ((v.mantissa ≡ pos 0) × (word ≡ 0))
    by (inl same) = inl (sym same)
    by (inr none) =
        let z : v.mantissa ≡ pos 0 = zero_of_zero (ieee word) v none.0 is.number in
        let m_is : m ≡ 0 = parts.mantissa ∙ ap nat_abs z in
        let sign = HasParts-zero v negative m k parts z in
        let low = of_zero m_is in
        inr (z, e ∙ ap (λ s. s * 2 ^ 31 + magnitude) sign ∙ omega arith)

-- a number with the sizes has a word
pub IsWordOf-some : (v : Binary) → IsReduced v → HasIeee v → (word : ℕ) × IsWordOf word v
IsWordOf-some v red has = by (eq-zero-or-pos (nat_abs v.mantissa))
  where
    zero_word : IsWordOf 0 (binary (pos 0) (pos 0))
    zero_word = record { in_word = omega arith; finite = omega arith; number = refl }

    by : (nat_abs v.mantissa ≡ 0) ⊎ (0 < nat_abs v.mantissa) → (word : ℕ) × IsWordOf word v
    by (inl none) = (0, subst (λ y. IsWordOf 0 y) (sym (reduced_zero v red (zero_of_abs v.mantissa none))) zero_word)
    by (inr some) =
        let m = nat_abs v.mantissa in
        let k = v.exponent in
        let l = IsLength-some 24 m has.digits in
        let length = l.0 in
        let room = HasIeee-room m length k l.1 some (HasIeee-magnitude v m k refl refl has) in
        let place = nat_abs (int_max (k +ℤ pos length +ℤ pos 125) (pos 0)) in
        let place_is : pos place ≡ int_max (k +ℤ pos length +ℤ pos 125) (pos 0) = omega (arith, ints, clamps) in
        let p = pos place -ℤ pos 149 in
        let digits = m * two_to_difference k p in
        let magnitude = place * 2 ^ 23 % 2 ^ 32 + digits in
        let w = writes_ieee m length place k k p some l.1 place_is refl digits magnitude refl (omega (arith, ints, clamps)) (omega (arith, ints, clamps)) refl refl in
        let negative = is_negative v.mantissa in
        let parts : HasParts v negative m k = record { sign = is_negative_iff v.mantissa; mantissa = refl; exponent = refl } in
        let word = (if negative then 1 else 0) * 2 ^ 31 + magnitude in
        (word, IsWordOf-parts v negative m magnitude word k parts w.unsigned w.finite w.number refl)
