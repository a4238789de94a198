-- The extra descriptors of spatial differencing, as they are written, read back.
use Rattle.std.proofs.Common.{◌≡◌, ◌==◌, ◌⊎◌, ℕ, suc, ◌+◌, ◌-◌, ◌*◌, ◌/◌, ◌^◌, ◌<◌, ◌≤◌, inl, inr, Bool, true, false, cond, ℤ, pos, negsuc, neg_ℤ, nat_abs, nat_lt, List, [], ◌∷◌, ◌++◌, length, take, drop, refl, sym, ap, ap₂, ◌∙◌, arith, append_assoc, add-mul, mod-eq_of_lt, pow_mono, take-append-drop, le-ltb, lt-ltb, eq-eqb, ne_eqb, subst}
use Rattle.std.proofs.lemmas.Bool.{cases_lt}
use Rattle.std.proofs.lemmas.Nat.{shr_below}
use Rattle.std.proofs.lemmas.List.{length-append, length-take-le, drop-drop, take_at}
use Rattle.grib_bits.specs.Bits.{bits, bits_of, num, signed}
use Rattle.grib_bits.specs.Octets.{octets, octet_list, signed_octets}
use Rattle.grib_bits.proofs.Numbers.{length-bits_of, num-bits_of, num-take_bits_of}
use Rattle.grib_bits.proofs.OctetBits.{AreOctets, length-bits, take-bits, octets-num}
use Rattle.grib_bits.proofs.OctetNumbers.{AreOctets-octet_list}
use Rattle.grib_packing.specs.Packed.{signed_field}
use Rattle.grib_packing.proofs.Fields.{segment}

-- ---- a field of whole octets

-- the bits of some octets that stand after k octets behind octet 5
field_bits : (s : List ℕ) (k n first last : ℕ) (front field after : List Bool) → bits (drop 5 s) ≡ front ++ (field ++ after) → length front ≡ 8 * k → length field ≡ 8 * n
    → first ≡ 6 + k → last ≡ 5 + (k + n) → bits (octet_list s first last) ≡ field
field_bits s k n first last front field after is before long is_first is_last =
    let rest = drop (5 + k) s in
    let start : first - 1 ≡ 5 + k = omega arith in
    let count : last + 1 - first ≡ n = omega arith in
    let here : bits rest ≡ field ++ after = ap bits (sym (drop-drop k 5 s)) ∙ segment (drop 5 s) front (field ++ after) k is before in
    let within : n ≤ length rest = omega (arith, length-bits rest, ap length here, length-append field after, long) in
    ap₂ (λ (i j : ℕ). bits (take i (drop j s))) count start ∙ sym (take-bits n rest within) ∙ ap (take (8 * n)) here ∙ take_at field after (8 * n) long

-- and their number
field_number : (s : List ℕ) (first last w n : ℕ) → AreOctets s → bits (octet_list s first last) ≡ bits_of w n → n < 2 ^ w → octets s first last ≡ n
field_number s first last w n known is small =
    octets-num s first last (AreOctets-octet_list s first last known) ∙ ap num is ∙ num-bits_of w n ∙ mod-eq_of_lt small

-- a number with sign is read from its sign and magnitude
signed_back : (w : ℕ) (x : ℤ) → nat_abs x < 2 ^ (w - 1) → signed (signed_field w x) ≡ x
signed_back w (pos n) small = ap (λ (b : Bool). signed (b ∷ bits_of (w - 1) n)) (le-ltb n 0 (omega arith)) ∙ ap pos (num-bits_of (w - 1) n ∙ mod-eq_of_lt small)
signed_back w (negsuc n) small = ap (λ (m : ℕ). neg_ℤ (pos m)) (num-bits_of (w - 1) (suc n) ∙ mod-eq_of_lt small)

-- ---- the place of the j-th descriptor of e octets

module _ (s : List ℕ) (j e : ℕ) (front field after : List Bool) (is : bits (drop 5 s) ≡ front ++ (field ++ after)) (before : length front ≡ 8 * (j * e)) (long : length field ≡ 8 * e) where
  pub descriptor_bits : bits (octet_list s (6 + j * e) (6 + (j + 1) * e - 1)) ≡ field
  descriptor_bits =
      let product : (j + 1) * e ≡ j * e + e = omega (arith, add-mul j 1 e) in
      field_bits s (j * e) e (6 + j * e) (6 + (j + 1) * e - 1) front field after is before long refl (omega (arith, product))

  -- its first octet
  pub first_octet : 1 ≤ e → bits (octet_list s (6 + j * e) (6 + j * e)) ≡ take 8 field
  first_octet some =
      let split : field ++ after ≡ take 8 field ++ (drop 8 field ++ after) =
      ap (λ xs. xs ++ after) (sym (take-append-drop 8 field)) ∙ append_assoc (take 8 field) (drop 8 field) after in
      field_bits s (j * e) 1 (6 + j * e) (6 + j * e) front (take 8 field) (drop 8 field ++ after) (is ∙ ap (λ xs. front ++ xs) split) before
      (length-take-le 8 field (omega arith)) refl (omega arith)

-- a number of e octets whose top bit is not set
module _ (s : List ℕ) (j e n : ℕ) (front after : List Bool) (known : AreOctets s) (some : 1 ≤ e) (small : n < 2 ^ (8 * e - 1))
    (is : bits (drop 5 s) ≡ front ++ (bits_of (8 * e) n ++ after)) (before : length front ≡ 8 * (j * e)) where
  below : n < 2 ^ (8 * e)
  below =
      let less : 8 * e - 1 ≤ 8 * e = omega arith in
      let power : 2 ^ (8 * e - 1) ≤ 2 ^ (8 * e) = pow_mono less in
      omega arith

  pub number_back : octets s (6 + j * e) (6 + (j + 1) * e - 1) ≡ n
  number_back =
      field_number s (6 + j * e) (6 + (j + 1) * e - 1) (8 * e) n known (descriptor_bits s j e front (bits_of (8 * e) n) after is before (length-bits_of (8 * e) n)) below

  pub not_signed : nat_lt 127 (octets s (6 + j * e) (6 + j * e)) ≡ false
  not_signed =
      let p = 6 + j * e in
      let value : octets s p p ≡ n / 2 ^ (8 * e - 8) =
      octets-num s p p (AreOctets-octet_list s p p known)
      ∙ ap num (first_octet s j e front (bits_of (8 * e) n) after is before (length-bits_of (8 * e) n) some)
      ∙ num-take_bits_of 8 (8 * e) n (omega arith) below in
      let room : 8 * e - 1 ≡ 7 + (8 * e - 8) = omega arith in
      let high : n / 2 ^ (8 * e - 8) < 2 ^ 7 = shr_below n 7 (8 * e - 8) (subst (λ (w : ℕ). n < 2 ^ w) room small) in
      le-ltb 127 (octets s p p) (omega (arith, value, high))

-- ---- the descriptors of order o

middle_1 : (o : ℕ) (xs : List Bool) → o ≡ 1 → cond (o == 1) [] xs ≡ []
middle_1 o xs one = rw (eq-eqb o 1 one) refl

middle_2 : (o : ℕ) (xs : List Bool) → o ≡ 2 → cond (o == 1) [] xs ≡ xs
middle_2 o xs two = rw (ne_eqb o 1 (λ e. omega (arith, two))) refl

module _ (s : List ℕ) (o e a b : ℕ) (m : ℤ) (groups : List Bool) (known : AreOctets s) (some : 1 ≤ e)
    (stands : bits (drop 5 s) ≡ ((bits_of (8 * e) a ++ cond (o == 1) [] (bits_of (8 * e) b)) ++ signed_field (8 * e) m) ++ groups) where
  first_stands : bits (drop 5 s) ≡ [] ++ (bits_of (8 * e) a ++ ((cond (o == 1) [] (bits_of (8 * e) b) ++ signed_field (8 * e) m) ++ groups))
  first_stands = stands ∙ regroup (bits_of (8 * e) a) (cond (o == 1) [] (bits_of (8 * e) b)) (signed_field (8 * e) m) groups
    where
      regroup : (x y z g : List Bool) → ((x ++ y) ++ z) ++ g ≡ x ++ ((y ++ z) ++ g)
      regroup x y z g = simp append_assoc

  second_stands : o ≡ 2 → bits (drop 5 s) ≡ bits_of (8 * e) a ++ (bits_of (8 * e) b ++ (signed_field (8 * e) m ++ groups))
  second_stands two =
      stands ∙ ap (λ y. ((bits_of (8 * e) a ++ y) ++ signed_field (8 * e) m) ++ groups) (middle_2 o (bits_of (8 * e) b) two)
      ∙ regroup (bits_of (8 * e) a) (bits_of (8 * e) b) (signed_field (8 * e) m) groups
    where
      regroup : (x y z g : List Bool) → ((x ++ y) ++ z) ++ g ≡ x ++ (y ++ (z ++ g))
      regroup x y z g = simp append_assoc

  front_long : (o ≡ 1) ⊎ (o ≡ 2) → length (bits_of (8 * e) a ++ cond (o == 1) [] (bits_of (8 * e) b)) ≡ 8 * (o * e)
  front_long (inl one) =
      ap (λ y. length (bits_of (8 * e) a ++ y)) (middle_1 o (bits_of (8 * e) b) one)
      ∙ rw one (omega (arith, length-append (bits_of (8 * e) a) [], length-bits_of (8 * e) a))
  front_long (inr two) =
      ap (λ y. length (bits_of (8 * e) a ++ y)) (middle_2 o (bits_of (8 * e) b) two)
      ∙ rw two (omega (arith, length-append (bits_of (8 * e) a) (bits_of (8 * e) b), length-bits_of (8 * e) a, length-bits_of (8 * e) b))

module _ (s : List ℕ) (o e a b : ℕ) (m : ℤ) (groups : List Bool) (known : AreOctets s) (some : 1 ≤ e)
    (stands : bits (drop 5 s) ≡ ((bits_of (8 * e) a ++ cond (o == 1) [] (bits_of (8 * e) b)) ++ signed_field (8 * e) m) ++ groups) where
  pub first_back : a < 2 ^ (8 * e - 1) → octets s (6 + 0 * e) (6 + (0 + 1) * e - 1) ≡ a
  first_back small = number_back s 0 e a [] _ known some small (first_stands s o e a b m groups known some stands) (omega arith)

  pub first_clear : a < 2 ^ (8 * e - 1) → nat_lt 127 (octets s (6 + 0 * e) (6 + 0 * e)) ≡ false
  first_clear small = not_signed s 0 e a [] _ known some small (first_stands s o e a b m groups known some stands) (omega arith)

  pub second_back : o ≡ 2 → b < 2 ^ (8 * e - 1) → octets s (6 + 1 * e) (6 + (1 + 1) * e - 1) ≡ b
  second_back two small =
      number_back s 1 e b (bits_of (8 * e) a) _ known some small (second_stands s o e a b m groups known some stands two) (omega (arith, length-bits_of (8 * e) a))

  pub second_clear : o ≡ 2 → b < 2 ^ (8 * e - 1) → nat_lt 127 (octets s (6 + 1 * e) (6 + 1 * e)) ≡ false
  second_clear two small =
      not_signed s 1 e b (bits_of (8 * e) a) _ known some small (second_stands s o e a b m groups known some stands two) (omega (arith, length-bits_of (8 * e) a))

  pub minimum_back : (o ≡ 1) ⊎ (o ≡ 2) → nat_abs m < 2 ^ (8 * e - 1) → signed_octets s (6 + o * e) (6 + (o + 1) * e - 1) ≡ m
  minimum_back order small =
      let front = bits_of (8 * e) a ++ cond (o == 1) [] (bits_of (8 * e) b) in
      let long : length (signed_field (8 * e) m) ≡ 8 * e = omega (arith, length-bits_of (8 * e - 1) (nat_abs m)) in
      ap signed (descriptor_bits s o e front (signed_field (8 * e) m) groups (stands ∙ append_assoc front (signed_field (8 * e) m) groups)
      (front_long s o e a b m groups known some stands order) long)
      ∙ signed_back (8 * e) m small

-- ---- the octets of each descriptor make room

pub size_room : (most : ℕ) → most < 2 ^ 31 → most < 2 ^ (8 * cond (nat_lt most (2 ^ 7)) 1 (cond (nat_lt most (2 ^ 15)) 2 (cond (nat_lt most (2 ^ 23)) 3 4)) - 1)
size_room most small = elim (cases_lt most (2 ^ 7)) [
  | inl in_1 ↦ rw (lt-ltb most (2 ^ 7) in_1) in_1
  | inr past_1 ↦ rw (le-ltb most (2 ^ 7) past_1) (elim (cases_lt most (2 ^ 15)) [
    | inl in_2 ↦ rw (lt-ltb most (2 ^ 15) in_2) in_2
    | inr past_2 ↦ rw (le-ltb most (2 ^ 15) past_2) (elim (cases_lt most (2 ^ 23)) [
      | inl in_3 ↦ rw (lt-ltb most (2 ^ 23) in_3) in_3
      | inr past_3 ↦ rw (le-ltb most (2 ^ 23) past_3) small
    ])
  ])
]

pub size_few : (a b c : Bool) → cond a 1 (cond b 2 (cond c 3 4)) ≤ 4
size_few true b c = omega arith
size_few false true c = omega arith
size_few false false true = omega arith
size_few false false false = omega arith
