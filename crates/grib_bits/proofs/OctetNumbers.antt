-- Lemmas on the numbers of whole octets of a section, for readers of them.
use Rattle.std.proofs.Common.{◌≡◌, ℕ, ◌+◌, ◌-◌, ◌*◌, ◌^◌, ◌<◌, ◌≤◌, List, [], ◌∷◌, length, take, drop, get_or, sym, ap, ◌∙◌, arith, subst, subst₂, Fits, w8, w16, w32, w64, inl, inr}
use Rattle.std.proofs.lemmas.Bool.{cases_lt}
use Rattle.std.proofs.lemmas.List.{length-drop, length-take-le, get_or-drop, get_or-take, get_or_past, length-take, take_rest}
use Rattle.std.specs.Int.{from_be_bytes}
use Rattle.byteorder.specs.Endian.{big_number}
use Rattle.grib_bits.specs.Bits.{bits, bits_of, num, signed}
use Rattle.grib_bits.specs.Octets.{octet_list, octets, signed_octets}
use Rattle.grib_bits.proofs.Numbers.{bits_of-num, num-lt}
use Rattle.grib_bits.proofs.OctetBits.{AreOctets, length-bits, big_from-bits, octets-num}

-- ---- what is known of octets

-- a proof knows this of each slice and `Vec` of octets, as `c.type_inv.section`
pub AreOctets-known : (xs : List ℕ) → ((i : ℕ) → Fits w8 (get_or xs i 0)) → AreOctets xs
AreOctets-known xs h i = (h i).fits

pub AreOctets-drop : (n : ℕ) (xs : List ℕ) → AreOctets xs → AreOctets (drop n xs)
AreOctets-drop n xs h i = subst (λ (x : ℕ). x < 256) (sym (get_or-drop n xs i 0)) (h (n + i))

pub AreOctets-take : (n : ℕ) (xs : List ℕ) → AreOctets xs → AreOctets (take n xs)
AreOctets-take n xs h i = elim (cases_lt i n) [
  | inl before ↦ subst (λ (x : ℕ). x < 256) (sym (get_or-take n xs i 0 before)) (h i)
  | inr after ↦ subst (λ (x : ℕ). x < 256) (sym (get_or_past (take n xs) i 0 (omega (arith, length-take n xs)))) (omega arith)
]

pub AreOctets-octet_list : (section : List ℕ) (first last : ℕ) → AreOctets section → AreOctets (octet_list section first last)
AreOctets-octet_list section first last h = AreOctets-take (last + 1 - first) (drop (first - 1) section) (AreOctets-drop (first - 1) section h)

-- ---- the number of n octets, `first` to `last`

module _ (section : List ℕ) (first last n : ℕ) (known : AreOctets section) (counted : 1 ≤ first) (count : first + n ≡ last + 1) (within : last ≤ length section) where
  pub length-octet_list : length (octet_list section first last) ≡ n
  length-octet_list =
      let long : last + 1 - first ≡ n = omega arith in
      let rest = drop (first - 1) section in
      ap (λ (k : ℕ). length (take k rest)) long ∙ length-take-le n rest (omega (arith, length-drop (first - 1) section))

  -- as `BigEndian::read_u32` and its like give it for a slice that begins with them
  pub big_number-octets : big_number n (drop (first - 1) section) ≡ octets section first last
  big_number-octets =
      let rest = drop (first - 1) section in
      let long : n ≡ last + 1 - first = omega arith in
      big_from-bits 0 n rest (AreOctets-drop (first - 1) section known) (omega (arith, length-drop (first - 1) section))
      ∙ ap (λ (k : ℕ). num (bits (take k rest))) long
      ∙ sym (octets-num section first last (AreOctets-octet_list section first last known))

  -- the same for the slice `&section[first - 1..]`
  pub big_number-rest : big_number n (take (length section - (first - 1)) (drop (first - 1) section)) ≡ octets section first last
  big_number-rest = ap (big_number n) (take_rest section (first - 1)) ∙ big_number-octets

-- A second block, since these use the lemmas above.
module _ (section : List ℕ) (first last n : ℕ) (known : AreOctets section) (counted : 1 ≤ first) (count : first + n ≡ last + 1) (within : last ≤ length section) where
  -- the number is below 2 to the 8 n
  pub octets-lt : octets section first last < 2 ^ (8 * n)
  octets-lt =
      let list = octet_list section first last in
      let long : length (bits list) ≡ 8 * n = length-bits list ∙ ap (λ (k : ℕ). 8 * k) (length-octet_list section first last n known counted count within) in
      let value = octets-num section first last (AreOctets-octet_list section first last known) in
      subst₂ (λ (m k : ℕ). m < 2 ^ k) (sym value) long (num-lt (bits list))

  -- the bits of the number are those of the octets
  pub bits_of-octets : (width : ℕ) → width ≡ 8 * n → bits_of width (octets section first last) ≡ bits (octet_list section first last)
  bits_of-octets width is_width =
      let list = octet_list section first last in
      let long : width ≡ length (bits list) =
      is_width ∙ ap (λ (k : ℕ). 8 * k) (sym (length-octet_list section first last n known counted count within)) ∙ sym (length-bits list) in
      ap (λ (w : ℕ). bits_of w (octets section first last)) long
      ∙ ap (bits_of (length (bits list))) (octets-num section first last (AreOctets-octet_list section first last known))
      ∙ bits_of-num (bits list)

-- A third block, since this uses the lemma above.
module _ (section : List ℕ) (first last n : ℕ) (known : AreOctets section) (counted : 1 ≤ first) (count : first + n ≡ last + 1) (within : last ≤ length section) where
  -- as `signed_of` reads the number
  pub signed-octets : (width : ℕ) → width ≡ 8 * n → signed (bits_of width (octets section first last)) ≡ signed_octets section first last
  signed-octets width is_width = ap signed (bits_of-octets section first last n known counted count within width is_width)

-- ---- the same from octets that are read one by one

octet_at : (section : List ℕ) (first k place : ℕ) → first - 1 + k ≡ place → get_or (drop (first - 1) section) k 0 ≡ get_or section place 0
octet_at section first k place e = get_or-drop (first - 1) section k 0 ∙ ap (λ (i : ℕ). get_or section i 0) e

module _ (section : List ℕ) (first : ℕ) (known : AreOctets section) (counted : 1 ≤ first) where
  pub from_be_bytes-octets_2 : first + 1 ≤ length section
      → from_be_bytes w16 (get_or section (first - 1) 0 ∷ get_or section first 0 ∷ []) ≡ octets section first (first + 1)
  from_be_bytes-octets_2 within =
      let octet_0 = octet_at section first 0 (first - 1) (omega arith) in
      let octet_1 = octet_at section first 1 (first) (omega arith) in
      let whole = big_number-octets section first (first + 1) 2 known counted (omega arith) within in
      omega arith

  pub from_be_bytes-octets_4 : first + 3 ≤ length section
      → from_be_bytes w32 (get_or section (first - 1) 0 ∷ get_or section first 0 ∷ get_or section (first + 1) 0 ∷ get_or section (first + 2) 0 ∷ []) ≡ octets section first (first + 3)
  from_be_bytes-octets_4 within =
      let octet_0 = octet_at section first 0 (first - 1) (omega arith) in
      let octet_1 = octet_at section first 1 (first) (omega arith) in
      let octet_2 = octet_at section first 2 (first + 1) (omega arith) in
      let octet_3 = octet_at section first 3 (first + 2) (omega arith) in
      let whole = big_number-octets section first (first + 3) 4 known counted (omega arith) within in
      omega arith

  pub from_be_bytes-octets_8 : first + 7 ≤ length section
      → from_be_bytes w64 (get_or section (first - 1) 0 ∷ get_or section first 0 ∷ get_or section (first + 1) 0 ∷ get_or section (first + 2) 0 ∷ get_or section (first + 3) 0 ∷ get_or section (first + 4) 0 ∷ get_or section (first + 5) 0 ∷ get_or section (first + 6) 0 ∷ []) ≡ octets section first (first + 7)
  from_be_bytes-octets_8 within =
      let octet_0 = octet_at section first 0 (first - 1) (omega arith) in
      let octet_1 = octet_at section first 1 (first) (omega arith) in
      let octet_2 = octet_at section first 2 (first + 1) (omega arith) in
      let octet_3 = octet_at section first 3 (first + 2) (omega arith) in
      let octet_4 = octet_at section first 4 (first + 3) (omega arith) in
      let octet_5 = octet_at section first 5 (first + 4) (omega arith) in
      let octet_6 = octet_at section first 6 (first + 5) (omega arith) in
      let octet_7 = octet_at section first 7 (first + 6) (omega arith) in
      let whole = big_number-octets section first (first + 7) 8 known counted (omega arith) within in
      omega arith
