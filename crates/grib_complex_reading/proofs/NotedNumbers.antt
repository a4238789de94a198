-- Lemmas on the extra descriptors as numbers that stand one after another.
use Rattle.std.proofs.Common.{◌≡◌, ℕ, ◌+◌, ◌-◌, ◌*◌, ◌/◌, ◌^◌, ◌<◌, ◌≤◌, ◌⊎◌, Bool, true, false, cond, ◌&&◌, eqb, ltb, Option, Some, None, All, List, [], ◌∷◌, ◌++◌, get_or, length, take, drop, pos, refl, sym, ap, ap₂, ◌∙◌, arith, subst, add-mul, le-ltb, lt-ltb, pow_mono, inl, inr}
use Rattle.std.specs.List.{range_with_len}
use Rattle.std.proofs.lemmas.Bool.{cases_lt, cases_eq, cond-false, ne_eqb, ltb-false}
use Rattle.std.proofs.lemmas.List.{drop-drop, length-append, length-drop, length-take-le, take-take, get_or_append_left}
use Rattle.std.proofs.lemmas.List.Elements.{All-map, All-nil, All-cons, All-get_or}
use Rattle.grib_base.specs.declared.fault.Fault.{Fault}
use Rattle.grib_base.specs.declared.fault.Reason.TheVariants.{FirstValueSign}
use Rattle.grib_base.specs.Rules.{refusal}
use Rattle.grib_bits.proofs.WordNumbers.{number-lt}
use Rattle.std.proofs.lemmas.List.FromFn.{get_or-map-range_with_len}
use Rattle.std.proofs.Math.Nat.{mul-le-mul_right, div-lt_iff_lt-mul}
use Rattle.grib_bits.specs.Bits.{bits, bits_of, num, signed}
use Rattle.grib_bits.specs.Octets.{octets, octet_list, num_on, signed_octets}
use Rattle.grib_bits.specs.Plain.{plain_at}
use Rattle.grib_bits.proofs.Numbers.{bits_of-num, num-take}
use Rattle.grib_bits.proofs.OctetBits.{AreOctets, length-bits, take-bits, drop-bits}
use Rattle.grib_packing.proofs.Fields.{length-plain}
use Rattle.grib_complex_reading.specs.Descriptors.{descriptor_at, descriptors_by, descriptors_told, is_signed_at, is_signed_number, numbers_at, sign_fault}
use Rattle.grib_complex_reading.proofs.Fields.{field-octets}

-- octets that stand after k octets behind octet 5
list_at : (s : List ℕ) (k n first last : ℕ) → first ≡ 6 + k → last ≡ 5 + k + n → octet_list s first last ≡ octet_list (drop 5 s) (k + 1) (k + n)
list_at s k n first last is_first is_last =
    let long : last + 1 - first ≡ k + n + 1 - (k + 1) = omega arith in
    let before : first - 1 ≡ 5 + k = omega arith in
    let behind : k + 1 - 1 ≡ k = omega arith in
    ap₂ (λ (i j : ℕ). take i (drop j s)) long before ∙ ap (take (k + n + 1 - (k + 1))) (sym (drop-drop k 5 s)) ∙ ap (λ (j : ℕ). take (k + n + 1 - (k + 1)) (drop j (drop 5 s))) (sym behind)

-- the bits of n octets after the first k
bits_at : (xs : List ℕ) (k n : ℕ) → k + n ≤ length xs → take (8 * n) (drop (8 * k) (bits xs)) ≡ bits (take n (drop k xs))
bits_at xs k n within = ap (take (8 * n)) (drop-bits k xs (omega arith)) ∙ take-bits n (drop k xs) (omega (arith, length-drop k xs))

second_false : (a b : Bool) → (a && false && b) ≡ false
second_false true b = refl
second_false false b = refl

third_false : (a b c : Bool) → (a && b && false && c) ≡ false
third_false true true c = refl
third_false true false c = refl
third_false false b c = refl

of_four : (a b c : Bool) → (a && false && b && c) ≡ false
of_four true b c = refl
of_four false b c = refl

module _ (s : List ℕ) (order extra : ℕ) (known : AreOctets (drop 5 s)) (whole : 5 + (order + 1) * extra ≤ length s) where
  -- the end of a descriptor
  ends : (j : ℕ) → j ≤ order → j * extra + extra ≤ length (drop 5 s)
  ends j within =
      let up : (j + 1) * extra ≤ (order + 1) * extra = mul-le-mul_right extra (omega arith) in
      omega (arith, add-mul j 1 extra, length-drop 5 s)

  abbrev field : ℕ → List Bool
  field j = take (8 * extra) (drop (8 * (j * extra)) (bits (drop 5 s)))

  number_is : (j : ℕ) → j ≤ order → get_or (numbers_at order extra (drop 5 s)) j 0 ≡ num (field j)
  number_is j within =
      let xs = bits (drop 5 s) in
      let place : j * (8 * extra) ≡ 8 * (j * extra) = omega arith in
      get_or-map-range_with_len (plain_at xs (8 * extra)) 0 (order + 1) j j 0 (omega arith) (omega arith)
      ∙ ap (λ (p : ℕ). num (take (8 * extra) (drop p xs))) place

  descriptor_number : (j : ℕ) → j ≤ order → get_or (numbers_at order extra (drop 5 s)) j 0 ≡ descriptor_at extra s j
  descriptor_number j within =
      number_is j within
      ∙ field-octets (drop 5 s) (j * extra) extra known (ends j within)
      ∙ sym (ap (num_on 0) (list_at s (j * extra) extra (6 + j * extra) (6 + (j + 1) * extra - 1) refl (omega (arith, add-mul j 1 extra))))

  first_octet : (j : ℕ) → j ≤ order → 1 ≤ extra → octets s (6 + j * extra) (6 + j * extra) ≡ get_or (numbers_at order extra (drop 5 s)) j 0 / 2 ^ (8 * extra - 8)
  first_octet j within some =
      let rest = drop (8 * (j * extra)) (bits (drop 5 s)) in
      let long : length (field j) ≡ 8 * extra = length-take-le (8 * extra) rest (omega (arith, length-drop (8 * (j * extra)) (bits (drop 5 s)), length-bits (drop 5 s), ends j within)) in
      ap (num_on 0) (list_at s (j * extra) 1 (6 + j * extra) (6 + j * extra) refl (omega arith))
      ∙ sym (field-octets (drop 5 s) (j * extra) 1 known (omega (arith, ends j within)))
      ∙ ap num (sym (take-take 8 (8 * extra) rest (omega arith)))
      ∙ num-take 8 (field j) (omega (arith, long))
      ∙ ap₂ (λ (n k : ℕ). n / 2 ^ (k - 8)) (sym (number_is j within)) long

  pub signed_is : (j : ℕ) → is_signed_at order extra s j ≡ is_signed_number order extra (numbers_at order extra (drop 5 s)) j
  signed_is j = elim (cases_lt j order) [
    | inl below ↦ elim (cases_lt 0 extra) [
      | inl some ↦
          let among : ltb j (length (numbers_at order extra (drop 5 s))) ≡ true = lt-ltb j _ (omega (arith, length-plain (bits (drop 5 s)) (8 * extra) (order + 1))) in
          ap (λ (n : ℕ). ltb j order && ltb 0 extra && ltb 127 n) (first_octet j (omega arith) (omega arith))
          ∙ sym (ap (λ (b : Bool). b && ltb j order && ltb 0 extra && ltb 127 (get_or (numbers_at order extra (drop 5 s)) j 0 / 2 ^ (8 * extra - 8))) among)
      | inr none ↦
          let no : ltb 0 extra ≡ false = le-ltb 0 extra none in
          ap (λ (b : Bool). ltb j order && b && ltb 127 (octets s (6 + j * extra) (6 + j * extra))) no ∙ second_false (ltb j order) (ltb 127 (octets s (6 + j * extra) (6 + j * extra)))
          ∙ sym (ap (λ (b : Bool). ltb j (length (numbers_at order extra (drop 5 s))) && ltb j order && b && ltb 127 (get_or (numbers_at order extra (drop 5 s)) j 0 / 2 ^ (8 * extra - 8))) no
          ∙ third_false (ltb j (length (numbers_at order extra (drop 5 s)))) (ltb j order) (ltb 127 (get_or (numbers_at order extra (drop 5 s)) j 0 / 2 ^ (8 * extra - 8))))
    ]
    | inr beyond ↦
        let no : ltb j order ≡ false = le-ltb j order beyond in
        ap (λ (b : Bool). b && ltb 0 extra && ltb 127 (octets s (6 + j * extra) (6 + j * extra))) no
        ∙ sym (ap (λ (b : Bool). ltb j (length (numbers_at order extra (drop 5 s))) && b && ltb 0 extra && ltb 127 (get_or (numbers_at order extra (drop 5 s)) j 0 / 2 ^ (8 * extra - 8))) no
        ∙ of_four (ltb j (length (numbers_at order extra (drop 5 s)))) (ltb 0 extra) (ltb 127 (get_or (numbers_at order extra (drop 5 s)) j 0 / 2 ^ (8 * extra - 8))))
  ]

  pub told_by_numbers : descriptors_told order extra (numbers_at order extra (drop 5 s)) ≡ descriptors_by order extra s
  told_by_numbers =
      let ns = numbers_at order extra (drop 5 s) in
      let first = descriptor_number 0 (omega arith) in
      let second : cond (eqb order 2) (pos (get_or ns 1 0)) (pos 0) ≡ cond (eqb order 2) (pos (descriptor_at extra s 1)) (pos 0) = elim (cases_eq order 2) [
        | inl two ↦ ap (λ (n : ℕ). cond (eqb order 2) (pos n) (pos 0)) (descriptor_number 1 (omega arith))
        | inr other ↦
            let no = ne_eqb order 2 other in
            cond-false (eqb order 2) (pos (get_or ns 1 0)) (pos 0) no ∙ sym (cond-false (eqb order 2) (pos (descriptor_at extra s 1)) (pos 0) no)
      ] in
      let k = order * extra in
      let rest = drop (8 * k) (bits (drop 5 s)) in
      let long : length (field order) ≡ 8 * extra = length-take-le (8 * extra) rest (omega (arith, length-drop (8 * k) (bits (drop 5 s)), length-bits (drop 5 s), ends order (omega arith))) in
      let count : k + extra + 1 - (k + 1) ≡ extra = omega arith in
      let behind : k + 1 - 1 ≡ k = omega arith in
      let least : signed (bits_of (8 * extra) (get_or ns order 0)) ≡ signed_octets s (6 + order * extra) (6 + (order + 1) * extra - 1) =
      ap₂ (λ (w n : ℕ). signed (bits_of w n)) (sym long) (number_is order (omega arith))
      ∙ ap signed (bits_of-num (field order) ∙ bits_at (drop 5 s) k extra (ends order (omega arith)))
      ∙ sym (ap (λ (os : List ℕ). signed (bits os)) (list_at s k extra (6 + order * extra) (6 + (order + 1) * extra - 1) refl (omega (arith, add-mul order 1 extra))
      ∙ ap₂ (λ (i j : ℕ). take i (drop j (drop 5 s))) count behind)) in
      λ i. record { order = order; first = pos (first i); second = second i; minimum = least i }

-- ---- signs

abbrev first_signed : ℕ → Option Fault
first_signed start = Some (refusal (start + 5) FirstValueSign 1)

abbrev second_signed : ℕ → ℕ → Option Fault
second_signed start extra = Some (refusal (start + 5 + extra) FirstValueSign 2)

module _ (order extra : ℕ) (items more : List ℕ) where
  pub among : (j : ℕ) → j < length items → is_signed_number order extra items j ≡ is_signed_number order extra (items ++ more) j
  among j below =
      let test : Bool → ℕ → Bool = λ b n. b && ltb j order && ltb 0 extra && ltb 127 (n / 2 ^ (8 * extra - 8)) in
      ap₂ test (lt-ltb j (length items) below ∙ sym (lt-ltb j (length (items ++ more)) (omega (arith, length-append items more)))) (sym (get_or_append_left items more 0 j below))

  signed_below : (j : ℕ) → is_signed_number order extra items j ≡ true → j < length items
  signed_below j signed = elim (cases_lt j (length items)) [
    | inl below ↦ below
    | inr past ↦ absurd (apart (sym (ap (λ (b : Bool). b && ltb j order && ltb 0 extra && ltb 127 (get_or items j 0 / 2 ^ (8 * extra - 8))) (le-ltb j (length items) past)) ∙ signed))
  ] where
    apart : false ≡ true → ⊥
    apart wrong = absurd (cc)

  -- the first of the first values whose top bit is set stays it
  pub sign_stays : (start : ℕ) (f : Fault) → sign_fault start order extra items ≡ Some f → sign_fault start order extra (items ++ more) ≡ Some f
  sign_stays start f is = go (is_signed_number order extra items 0) (is_signed_number order extra items 1) refl refl
    where
      go : (a b : Bool) → is_signed_number order extra items 0 ≡ a → is_signed_number order extra items 1 ≡ b → sign_fault start order extra (items ++ more) ≡ Some f
      go true b is_a is_b =
          let here = sym (among 0 (signed_below 0 is_a)) ∙ is_a in
          ap (λ (c : Bool). cond c (first_signed start) (cond (is_signed_number order extra (items ++ more) 1) (second_signed start extra) None)) here
          ∙ sym (ap (λ (c : Bool). cond c (first_signed start) (cond (is_signed_number order extra items 1) (second_signed start extra) None)) is_a) ∙ is
      go false true is_a is_b =
          let below = signed_below 1 is_b in
          let here = sym (among 0 (omega arith)) ∙ is_a in
          let there = sym (among 1 below) ∙ is_b in
          ap₂ (λ (c d : Bool). cond c (first_signed start) (cond d (second_signed start extra) None)) here there
          ∙ sym (ap₂ (λ (c d : Bool). cond c (first_signed start) (cond d (second_signed start extra) None)) is_a is_b) ∙ is
      go false false is_a is_b = absurd (none (sym (ap₂ (λ (c d : Bool). cond c (first_signed start) (cond d (second_signed start extra) None)) is_a is_b) ∙ is))
        where
          none : ◌≡◌ {A = Option Fault} None (Some f) → ⊥
          none wrong = absurd (cc)

pub no_sign : (a b : Bool) (f g : Fault) → cond a (Some f) (cond b (Some g) None) ≡ None → (a ≡ false) × (b ≡ false)
no_sign true b f g wrong = absurd (cc)
no_sign false true f g wrong = absurd (cc)
no_sign false false f g none = (refl, refl)

-- a first value whose top bit is not set
pub natural_small : (order extra : ℕ) (numbers : List ℕ) (j : ℕ) → extra ≤ 4 → j < length numbers → (j < order) ⊎ (extra ≡ 0) → All (λ n. n < 2 ^ (8 * extra)) numbers
    → is_signed_number order extra numbers j ≡ false → get_or numbers j 0 < 2 ^ 31
natural_small order extra numbers j few below place small natural =
    let n = get_or numbers j 0 in
    let here : n < 2 ^ (8 * extra) = All-get_or (λ (n : ℕ). n < 2 ^ (8 * extra)) numbers j 0 below small in
    elim (cases_lt 0 extra) [
      | inl some ↦
          let first : j < order = elim place [ inl one ↦ one | inr none ↦ absurd (omega arith) ] in
          let tests : ltb 127 (n / 2 ^ (8 * extra - 8)) ≡ false =
          sym (ap₂ (λ (a b : Bool). a && b && ltb 0 extra && ltb 127 (n / 2 ^ (8 * extra - 8))) (lt-ltb j (length numbers) below) (lt-ltb j order first)
          ∙ ap (λ (c : Bool). c && ltb 127 (n / 2 ^ (8 * extra - 8))) (lt-ltb 0 extra some)) ∙ natural in
          let low : n / 2 ^ (8 * extra - 8) ≤ 127 = ltb-false 127 (n / 2 ^ (8 * extra - 8)) tests in
          let up : 8 * extra - 8 ≤ 24 = omega arith in
          let power : 2 ^ (8 * extra - 8) ≤ 2 ^ 24 = pow_mono up in
          let nothing : 0 ≤ 8 * extra - 8 = omega arith in
          let one : 2 ^ 0 ≤ 2 ^ (8 * extra - 8) = pow_mono nothing in
          let under : n < 128 * 2 ^ (8 * extra - 8) = (div-lt_iff_lt-mul {k = 2 ^ (8 * extra - 8)} {x = n} {y = 128} (omega (arith, one))).0 (omega (arith, low)) in
          omega (arith, under, power)
      | inr none ↦
          let zero_width : 8 * extra ≡ 0 = omega arith in
          let nothing : n < 2 ^ 0 = subst (λ (w : ℕ). n < 2 ^ w) zero_width here in
          omega (arith, nothing)
    ]

-- the numbers are of as many bits as the descriptors have
pub numbers_small : (order extra : ℕ) (octets : List ℕ) → All (λ n. n < 2 ^ (8 * extra)) (numbers_at order extra octets)
numbers_small order extra octets =
    All-map (λ (n : ℕ). n < 2 ^ (8 * extra)) (plain_at (bits octets) (8 * extra)) (range_with_len 0 (order + 1)) (All-of (range_with_len 0 (order + 1)))
  where
    All-of : (ks : List ℕ) → All (λ k. plain_at (bits octets) (8 * extra) k < 2 ^ (8 * extra)) ks
    All-of [] = All-nil (λ (k : ℕ). plain_at (bits octets) (8 * extra) k < 2 ^ (8 * extra))
    All-of (k ∷ ks) = All-cons (λ (k : ℕ). plain_at (bits octets) (8 * extra) k < 2 ^ (8 * extra)) k ks (number-lt (8 * extra) (drop (k * (8 * extra)) (bits octets))) (All-of ks)
