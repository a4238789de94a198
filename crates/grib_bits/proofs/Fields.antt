-- Lemmas on a field that is taken from a word of eight octets.
use Rattle.std.proofs.Common.{◌≡◌, ℕ, ◌+◌, ◌-◌, ◌*◌, ◌/◌, ◌%◌, ◌^◌, ◌<◌, ◌≤◌, Bool, List, ◌∷◌, ◌++◌, length, take, drop, get_or, bit_or, sym, ap, ap₂, ◌∙◌, arith, mul_assoc, subst}
use Rattle.std.proofs.lemmas.List.{length-take-le, length-drop, take-append-le, take-take, take_all, drop-take, drop-drop, drop_more}
use Rattle.std.proofs.lemmas.Nat.{pow-add, shl-shr, shr-shr, shr_below, field_of, or_shifted}
use Rattle.grib_bits.specs.Bits.{bits, bits_of, num}
use Rattle.grib_bits.proofs.Numbers.{length-bits_of, num-field, num-field_split, num-drop, num-take_bits_of, shl_low}
use Rattle.grib_bits.proofs.OctetBits.{AreOctets, length-bits, bits-append, take-bits, drop-bits}

-- a field within the first n bits is the same wherever those are
same_field : (n skip width : ℕ) (xs ys : List Bool) → skip + width ≤ n → take n xs ≡ take n ys → take width (drop skip xs) ≡ take width (drop skip ys)
same_field n skip width xs ys within same =
    sym (drop-take skip width xs) ∙ ap (drop skip) (sym (take-take (skip + width) n xs within))
    ∙ ap (λ (zs : List Bool). drop skip (take (skip + width) zs)) same
    ∙ ap (drop skip) (take-take (skip + width) n ys within) ∙ drop-take skip width ys

-- where a field begins, counted from an octet
pub field_start : (octets : List ℕ) (at : ℕ) → at / 8 ≤ length octets → drop at (bits octets) ≡ drop (at % 8) (bits (drop (at / 8) octets))
field_start octets at within =
    let whole : 8 * (at / 8) + at % 8 ≡ at = omega arith in
    ap (λ (n : ℕ). drop n (bits octets)) (sym whole) ∙ sym (drop-drop (at % 8) (8 * (at / 8)) (bits octets))
    ∙ ap (drop (at % 8)) (drop-bits (at / 8) octets within)

module _ (octets more : List ℕ) (enough : 8 ≤ length (octets ++ more)) where
  -- the first eight octets have 64 bits
  length-word : length (bits (take 8 (octets ++ more))) ≡ 64
  length-word = length-bits (take 8 (octets ++ more)) ∙ ap (λ (n : ℕ). 8 * n) (length-take-le 8 (octets ++ more) enough)

  -- and those begin with the bits of the octets
  take-word : (n : ℕ) → n ≤ 64 → n ≤ 8 * length octets → take n (bits octets) ≡ take n (bits (take 8 (octets ++ more)))
  take-word n short within =
      sym (take-append-le n (bits octets) (bits more) (omega (arith, length-bits octets)))
      ∙ ap (take n) (sym (bits-append octets more))
      ∙ sym (take-take n (8 * 8) (bits (octets ++ more)) short)
      ∙ ap (take n) (take-bits 8 (octets ++ more) enough)

-- `word << skip >> (64 - width)`, where the field ends within the word
shifted_within : (word skip width : ℕ) → skip + width ≤ 64 → word * 2 ^ skip % 2 ^ 64 / 2 ^ (64 - width) ≡ word / 2 ^ (64 - (skip + width)) % 2 ^ width
shifted_within word skip width within =
    let after = 64 - (skip + width) in
    let low = word % 2 ^ (64 - skip) in
    let right : skip + after ≡ 64 - width = omega arith in
    let left : 64 - skip ≡ width + after = omega arith in
    ap (λ (n : ℕ). n / 2 ^ (64 - width)) (shl_low word skip (omega arith))
    ∙ ap (λ (k : ℕ). low * 2 ^ skip / 2 ^ k) (sym right)
    ∙ sym (shr-shr (low * 2 ^ skip) skip after)
    ∙ ap (λ (n : ℕ). n / 2 ^ after) (shl-shr low skip)
    ∙ ap (λ (k : ℕ). word % 2 ^ k / 2 ^ after) left
    ∙ field_of word width after

-- the same, where the field has k bits more
shifted_over : (word skip width k : ℕ) → skip ≤ 64 → width ≤ 64 → skip + width ≡ 64 + k → word * 2 ^ skip % 2 ^ 64 / 2 ^ (64 - width) ≡ word % 2 ^ (64 - skip) * 2 ^ k
shifted_over word skip width k within short over =
    let low = word % 2 ^ (64 - skip) in
    let steps : k + (64 - width) ≡ skip = omega arith in
    let power : low * 2 ^ skip ≡ low * 2 ^ k * 2 ^ (64 - width) =
    ap (λ (j : ℕ). low * 2 ^ j) (sym steps) ∙ ap (λ (n : ℕ). low * n) (pow-add 2 k (64 - width)) ∙ sym (mul_assoc low (2 ^ k) (2 ^ (64 - width))) in
    ap (λ (n : ℕ). n / 2 ^ (64 - width)) (shl_low word skip within ∙ power) ∙ shl-shr (low * 2 ^ k) (64 - width)

-- the first bits of the ninth octet
ninth_octet : (octets : List ℕ) (k : ℕ) → k ≤ 8 → 8 < length octets → get_or octets 8 0 < 2 ^ 8 → num (take k (drop (8 * 8) (bits octets))) ≡ get_or octets 8 0 / 2 ^ (8 - k)
ninth_octet octets k short within is_octet =
    let ninth = get_or octets 8 0 in
    let next : drop 8 octets ≡ ninth ∷ drop 9 octets = drop_more octets 8 0 within in
    ap (λ (xs : List Bool). num (take k xs)) (drop-bits 8 octets (omega arith) ∙ ap bits next)
    ∙ ap num (take-append-le k (bits_of 8 ninth) (bits (drop 9 octets)) (omega (arith, length-bits_of 8 ninth)))
    ∙ num-take_bits_of k 8 ninth short is_octet

module _ (octets more : List ℕ) (enough : 8 ≤ length (octets ++ more)) (word skip width : ℕ) (is_word : word ≡ num (bits (take 8 (octets ++ more)))) (fits : skip + width ≤ 8 * length octets) where
  -- a field that ends within eight octets
  pub field_within : skip + width ≤ 64 → word * 2 ^ skip % 2 ^ 64 / 2 ^ (64 - width) ≡ num (take width (drop skip (bits octets)))
  field_within within =
      let front = bits (take 8 (octets ++ more)) in
      let long = length-word octets more enough in
      shifted_within word skip width within
      ∙ ap (λ (n : ℕ). n / 2 ^ (64 - (skip + width)) % 2 ^ width) is_word
      ∙ ap (λ (l : ℕ). num front / 2 ^ (l - (skip + width)) % 2 ^ width) (sym long)
      ∙ sym (num-field front skip width (omega arith))
      ∙ ap num (sym (same_field (skip + width) skip width (bits octets) front (omega arith) (take-word octets more enough (skip + width) within fits)))

  -- a field that ends in the ninth octet, of which it has k bits
  pub field_over : (k : ℕ) → AreOctets octets → skip ≤ 7 → width ≤ 64 → 0 < k → skip + width ≡ 64 + k
      → bit_or (word * 2 ^ skip % 2 ^ 64 / 2 ^ (64 - width)) (get_or octets 8 0 / 2 ^ (8 - k)) ≡ num (take width (drop skip (bits octets)))
  field_over k are_octets start short some over =
      let front = bits (take 8 (octets ++ more)) in
      let long = length-word octets more enough in
      let ninth = get_or octets 8 0 in
      let low = word % 2 ^ (64 - skip) in
      let whole : (64 - skip) + k ≡ width = omega arith in
      let eight : k + (8 - k) ≡ 8 = omega arith in
      let below : ninth < 2 ^ (k + (8 - k)) = subst (λ (n : ℕ). ninth < 2 ^ n) (sym eight) (are_octets 8) in
      let last : ninth / 2 ^ (8 - k) < 2 ^ k = shr_below ninth k (8 - k) below in
      let first_part : num (take (64 - skip) (drop skip (bits octets))) ≡ low =
      ap num (same_field 64 skip (64 - skip) (bits octets) front (omega arith) (take-word octets more enough 64 (omega arith) (omega arith))
      ∙ take_all (64 - skip) (drop skip front) (omega (arith, length-drop skip front)))
      ∙ num-drop skip front (omega arith)
      ∙ ap (λ (l : ℕ). num front % 2 ^ (l - skip)) long
      ∙ ap (λ (n : ℕ). n % 2 ^ (64 - skip)) (sym is_word) in
      let second_part = ninth_octet octets k (omega arith) (omega arith) (are_octets 8) in
      let ended : skip + (64 - skip) ≡ 8 * 8 = omega arith in
      let parts : num (take width (drop skip (bits octets))) ≡ low * 2 ^ k + ninth / 2 ^ (8 - k) =
      ap (λ (w : ℕ). num (take w (drop skip (bits octets)))) (sym whole)
      ∙ num-field_split (bits octets) skip (64 - skip) k (omega (arith, length-bits octets))
      ∙ ap (λ (n : ℕ). num (take (64 - skip) (drop skip (bits octets))) * 2 ^ k + num (take k (drop n (bits octets)))) ended
      ∙ ap₂ (λ (m n : ℕ). m * 2 ^ k + n) first_part second_part in
      ap (λ (n : ℕ). bit_or n (ninth / 2 ^ (8 - k))) (shifted_over word skip width k (omega arith) short over)
      ∙ or_shifted low k (ninth / 2 ^ (8 - k)) last ∙ sym parts
