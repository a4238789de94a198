-- Bits that become octets, and sections of such octets.
use Rattle.std.proofs.Common.{◌≡◌, ℕ, zero, suc, ◌+◌, ◌-◌, ◌*◌, ◌/◌, ◌^◌, ◌<◌, ◌≤◌, Bool, List, ◌∷◌, ◌++◌, length, take, drop, All, refl, sym, ap, ap₂, ◌∙◌, arith, subst, take-append-drop}
use Rattle.std.proofs.lemmas.List.{length-drop, length-take-le, nil_from_length, drop-drop}
use Rattle.std.proofs.lemmas.List.Elements.{All-nil, All-cons, All-append}
use Rattle.grib_bits.specs.Bits.{bits, bits_of, num}
use Rattle.grib_bits.specs.Octets.{octets, octet_list}
use Rattle.grib_bits.specs.Plain.{plain}
use Rattle.grib_bits.proofs.Numbers.{bits_of-num, num-lt}
use Rattle.grib_bits.proofs.OctetBits.{AreOctets, same_from_bits}
use Rattle.grib_bits.proofs.OctetNumbers.{AreOctets-drop, AreOctets-take, bits_of-octets}
use Rattle.grib_bits.specs.Encoding.{octets_of, section_of}
use Rattle.grib_bits.proofs.Encoding.{bits-octets_of, AreOctets-octets_of, All-octets_of, octets_of-one, StatesItself-section_of}
use Rattle.grib_packing.specs.Packed.{HasContents, padded}
use Rattle.grib_packing.proofs.Fields.{plain-add, length-plain, length-padded8}
use Rattle.grib_packing.proofs.Sections.{AreOctets-all}
use Rattle.grib_packed.specs.Section.{octets_with, section_with}

-- ---- numbers of 8 bits

-- the first number, and those after it
first_octet : (xs : List Bool) (n : ℕ) → plain xs 8 (suc n) ≡ num (take 8 xs) ∷ plain (drop 8 xs) 8 n
first_octet xs n =
    let one : suc n ≡ 1 + n = omega arith in
    ap (plain xs 8) one ∙ plain-add xs 8 1 n

pub bits-plain : (n : ℕ) (xs : List Bool) → length xs ≡ 8 * n → bits (plain xs 8 n) ≡ xs
bits-plain zero xs long = sym (nil_from_length xs (omega arith))
bits-plain (suc n) xs long =
    let first : length (take 8 xs) ≡ 8 = length-take-le 8 xs (omega arith) in
    let octet : bits_of 8 (num (take 8 xs)) ≡ take 8 xs = ap (λ (w : ℕ). bits_of w (num (take 8 xs))) (sym first) ∙ bits_of-num (take 8 xs) in
    ap bits (first_octet xs n)
    ∙ ap₂ ◌++◌ octet (bits-plain n (drop 8 xs) (omega (arith, length-drop 8 xs)))
    ∙ take-append-drop 8 xs

pub plain-below : (n : ℕ) (xs : List Bool) → length xs ≡ 8 * n → All (λ octet. octet < 256) (plain xs 8 n)
plain-below zero xs long = All-nil (λ octet. octet < 256)
plain-below (suc n) xs long =
    let first : length (take 8 xs) ≡ 8 = length-take-le 8 xs (omega arith) in
    let below : num (take 8 xs) < 2 ^ 8 = subst (λ (w : ℕ). num (take 8 xs) < 2 ^ w) first (num-lt (take 8 xs)) in
    subst (All (λ octet. octet < 256)) (sym (first_octet xs n))
    (All-cons (λ octet. octet < 256) (num (take 8 xs)) (plain (drop 8 xs) 8 n) (omega (arith, below)) (plain-below n (drop 8 xs) (omega (arith, length-drop 8 xs))))

-- ---- the octets of contents

whole : (contents : List Bool) → length (padded contents) ≡ 8 * (length (padded contents) / 8)
whole contents = omega (arith, length-padded8 contents)

pub bits-with : (contents : List Bool) → bits (octets_with contents) ≡ padded contents
bits-with contents = bits-plain (length (padded contents) / 8) (padded contents) (whole contents)

pub below-with : (contents : List Bool) → All (λ octet. octet < 256) (octets_with contents)
below-with contents = plain-below (length (padded contents) / 8) (padded contents) (whole contents)

pub length-with : (contents : List Bool) → length (octets_with contents) ≡ (length contents + 7) / 8
length-with contents = omega (arith, length-plain (padded contents) 8 (length (padded contents) / 8), length-padded8 contents)

-- ---- sections

pub below-section : (number : ℕ) (contents : List ℕ) → number < 256 → All (λ octet. octet < 256) contents → All (λ octet. octet < 256) (section_of number contents)
below-section number contents small each =
    All-append (λ octet. octet < 256) (octets_of 4 (5 + length contents)) (number ∷ contents) (All-octets_of 4 (5 + length contents))
    (All-cons (λ octet. octet < 256) number contents small each)

pub length-section : (number : ℕ) (contents : List Bool) → length (section_with number contents) ≡ 5 + (length contents + 7) / 8
length-section number contents = omega (arith, length-with contents)

-- a section with contents that its length can tell
pub has_contents : (number : ℕ) (contents : List Bool) → number < 256 → length contents < 2 ^ 34 → HasContents number (section_with number contents) contents
has_contents number contents small short = record {
  itself = StatesItself-section_of number (octets_with contents) (omega (arith, length-with contents));
  are_octets = below-section number (octets_with contents) small (below-with contents);
  contents_stand = bits-with contents;
}

-- ---- octets that make a number

module _ (s : List ℕ) (known : AreOctets s) where
  -- the octets k + 1 to k + n are those of their number
  pub next : (k n v : ℕ) → k + n ≤ length s → octets s (k + 1) (k + n) ≡ v → drop k s ≡ octets_of n v ++ drop (k + n) s
  next k n v within is =
      let rest = drop k s in
      let list : octet_list s (k + 1) (k + n) ≡ take n rest =
      let count : k + n + 1 - (k + 1) ≡ n = omega arith in
      let before : k + 1 - 1 ≡ k = omega arith in
      ap₂ (λ (i j : ℕ). take i (drop j s)) count before in
      let same : bits (take n rest) ≡ bits (octets_of n v) =
      ap bits (sym list) ∙ sym (bits_of-octets s (k + 1) (k + n) n known (omega arith) (omega arith) within (8 * n) refl)
      ∙ ap (bits_of (8 * n)) is ∙ sym (bits-octets_of n v) in
      sym (take-append-drop n rest)
      ∙ ap₂ ◌++◌ (same_from_bits (take n rest) (octets_of n v) (AreOctets-take n rest (AreOctets-drop k s known)) (AreOctets-octets_of n v) same) (drop-drop n k s)

-- there is one section with these contents
pub only_contents : (number : ℕ) (s : List ℕ) (contents : List Bool) → number < 256 → HasContents number s contents → s ≡ section_with number contents
only_contents number s contents small h =
    let known = AreOctets-all s h.are_octets in
    let after : drop 5 s ≡ octets_with contents =
    same_from_bits (drop 5 s) (octets_with contents) (AreOctets-drop 5 s known) (AreOctets-all (octets_with contents) (below-with contents)) (h.contents_stand ∙ sym (bits-with contents)) in
    let least : 5 ≤ length s = h.itself.least in
    let long : length s ≡ 5 + length (octets_with contents) = omega (arith, length-drop 5 s, ap length after) in
    next s known 0 4 (length s) (omega arith) h.itself.length_stands
    ∙ ap₂ ◌++◌ (ap (octets_of 4) long)
    (next s known 4 1 number (omega arith) h.itself.number_stands ∙ ap₂ ◌++◌ (octets_of-one number small) after)
