-- Octets of a message as the front of what is left of it from an octet on.
use Rattle.std.proofs.Common.{◌≡◌, ℕ, ◌+◌, ◌-◌, ◌<◌, ◌≤◌, List, [], ◌∷◌, length, take, drop, ap, sym, ◌∙◌, arith, All, take-take, drop-drop}
use Rattle.std.proofs.lemmas.List.{drop-take}
use Rattle.grib_bits.specs.Octets.{num_on, octets, octet_list}
use Rattle.grib_bits.proofs.Counted.{mark_number}
use Rattle.grib2_sections.specs.Head.{end_mark}
use Rattle.grib2_sections.specs.Frame.{section_at, section_length, section_number}

-- what is left of a message from octet q on
abbrev pub from : ℕ → List ℕ → List ℕ
from q m = drop (q - 1) m

-- the four octets at q
pub four_at : (m : List ℕ) (q : ℕ) → octet_list m q (q + 3) ≡ take 4 (from q m)
four_at m q = let e : (q + 3) + 1 - q ≡ 4 = omega arith in ap (λ k. take k (drop (q - 1) m)) e

-- and the octet after them
pub fifth_at : (m : List ℕ) (q : ℕ) → 1 ≤ q → octet_list m (q + 4) (q + 4) ≡ take 1 (drop 4 (from q m))
fifth_at m q low =
    let e : (q + 4) + 1 - (q + 4) ≡ 1 = omega arith in
    let place : (q + 4) - 1 ≡ (q - 1) + 4 = omega arith in
    ap (λ k. take k (drop ((q + 4) - 1) m)) e
    ∙ (ap (λ k. take 1 (drop k m)) place ∙ ap (take 1) (sym (drop-drop 4 (q - 1) m)))

-- the section at q, of the length that it states
pub section_is : (m : List ℕ) (q l : ℕ) → 1 ≤ q → octets m q (q + 3) ≡ l → section_at m q ≡ take l (from q m)
section_is m q l low states =
    let e : (q - 1 + octets m q (q + 3)) + 1 - q ≡ l = omega arith in
    ap (λ k. take k (drop (q - 1) m)) e

-- the length that a front of five octets or more states
pub front_length : (left : List ℕ) (l : ℕ) → 5 ≤ l → section_length (take l left) ≡ num_on 0 (take 4 left)
front_length left l least = let low : 4 ≤ l = omega arith in ap (num_on 0) (take-take 4 l left low)

-- and its number
pub front_number : (left : List ℕ) (l : ℕ) → 5 ≤ l → section_number (take l left) ≡ num_on 0 (take 1 (drop 4 left))
front_number left l least =
    let e : l ≡ 4 + (l - 4) = omega arith in
    let low : 1 ≤ l - 4 = omega arith in
    ap (λ k. num_on 0 (take 1 (drop 4 (take k left)))) e
    ∙ (ap (λ xs. num_on 0 (take 1 xs)) (drop-take 4 (l - 4) left) ∙ ap (num_on 0) (take-take 1 (l - 4) (drop 4 left) low))

-- so four octets that make it are `7777`
pub mark_from_number : (left : List ℕ) → 4 ≤ length left → All (λ octet. octet < 256) (take 4 left) → num_on 0 (take 4 left) ≡ 926365495
    → take 4 left ≡ end_mark
mark_from_number [] long small e = absurd (omega arith)
mark_from_number (a ∷ []) long small e = absurd (omega arith)
mark_from_number (a ∷ b ∷ []) long small e = absurd (omega arith)
mark_from_number (a ∷ b ∷ c ∷ []) long small e = absurd (omega arith)
mark_from_number (a ∷ b ∷ c ∷ d ∷ left) long small e =
    let each = mark_number a b c d (small 0 0 (omega arith)) (small 1 0 (omega arith)) (small 2 0 (omega arith)) (small 3 0 (omega arith)) e in
    let first : a ≡ 55 = each.0 in
    let second : b ≡ 55 = each.1 in
    let third : c ≡ 55 = each.2 in
    let fourth : d ≡ 55 = each.3 in
    rw (first, second, third, fourth)
