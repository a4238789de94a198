-- Numbers where they stand in simple packing.
use Rattle.std.proofs.Common.{◌≡◌, ℕ, zero, suc, ◌+◌, ◌-◌, ◌*◌, ◌/◌, ◌%◌, ◌^◌, ◌<◌, ◌≤◌, ◌||◌, Bool, true, false, not, cond, max, Some, None, nat_lt, List, [], ◌∷◌, ◌++◌, length, take, drop, map, replicate, All, refl, sym, ap, ap₂, ◌∙◌, arith, subst, pow_mono, add-mul, le-ltb, append_assoc}
use Rattle.std.proofs.lemmas.Nat.{div_below, pow_pos}
use Rattle.std.specs.List.{list_any}
use Rattle.std.proofs.lemmas.List.{append-nil, length-map, length-drop, length-take-le}
use Rattle.std.proofs.lemmas.List.Elements.{All-head, All-tail, All-weaker}
use Rattle.grib_bits.specs.Bits.{bits, bits_of, num}
use Rattle.grib_bits.specs.Plain.{plain, plain_at}
use Rattle.grib_bits.specs.Written.{padding}
use Rattle.grib_bits.specs.Encoding.{octets_of}
use Rattle.grib_bits.proofs.Numbers.{bits_of-num, bits_of-join, bits_of-mod, bits_of-zero}
use Rattle.grib_bits.proofs.OctetBits.{bits-append, length-bits, take-bits}
use Rattle.grib_bitmap.specs.Mask.{present_count}
use Rattle.grib_bitmap.proofs.Made.{take_both}
use Rattle.grib_bitmap.proofs.Runs.{present_count-cons, all_present}
use Rattle.grib_packing.specs.declared.column.Point.{Point}
use Rattle.grib_packing.specs.declared.column.Point.TheVariants.{Scaled, Missing, Missing2}
use Rattle.grib_packing.specs.Column.{points_with_mask}
use Rattle.grib_packing.specs.Groupings.{digits, greatest}
use Rattle.grib_packing.specs.Misfits.{ToSimple, SecondaryMissing, OutOfRange, first_misfit, first_of, is_missing, is_missing2, is_scaled_outside}
use Rattle.grib_base.specs.Rules.{first_place}
use Rattle.grib_packing.specs.Packed.{HasContents, HasNumbers, IsBitmap, IsSimple, fields, padded, present_bits, simple_numbers}
use Rattle.grib_packing.specs.declared.column.Column.{Column}
use Rattle.grib_packing.proofs.Digits.{digits-lt_64, digits-most_64}
use Rattle.grib_packing.proofs.Fields.{plain-add, plain_more, length-plain, length-padded8}
use Rattle.grib_packing.proofs.Sections.{head_of, has_contents}
use Rattle.std.proofs.lemmas.List.FromFn.{get_or-map-range_with_len}
use Rattle.grib_packing.proofs.Digits.{digits-is}
use Rattle.grib_simple_reading.proofs.Plain.{plain_below, plain_point}
use Rattle.grib_simple.proofs.Fitting as fitting
use Rattle.grib_simple.proofs.Fitting.{at_most}

-- ---- the points that a mask gives some numbers to

numbers_with_mask : (mask : List Bool) (xs : List ℕ) → present_count mask ≡ length xs → simple_numbers (points_with_mask mask (map plain_point xs)) ≡ xs
numbers_with_mask [] [] e = refl
numbers_with_mask [] (x ∷ xs) e = absurd (omega arith)
numbers_with_mask (false ∷ mask) xs e = numbers_with_mask mask xs (omega (arith, present_count-cons false mask))
numbers_with_mask (true ∷ mask) [] e = absurd (omega (arith, present_count-cons true mask))
numbers_with_mask (true ∷ mask) (x ∷ xs) e = ap (λ (ns : List ℕ). x ∷ ns) (numbers_with_mask mask xs (omega (arith, present_count-cons true mask)))

bits_with_mask : (mask : List Bool) (xs : List ℕ) → present_count mask ≡ length xs → present_bits (points_with_mask mask (map plain_point xs)) ≡ mask
bits_with_mask [] xs e = refl
bits_with_mask (false ∷ mask) xs e = ap (λ (bs : List Bool). false ∷ bs) (bits_with_mask mask xs (omega (arith, present_count-cons false mask)))
bits_with_mask (true ∷ mask) [] e = absurd (omega (arith, present_count-cons true mask))
bits_with_mask (true ∷ mask) (x ∷ xs) e = ap (λ (bs : List Bool). true ∷ bs) (bits_with_mask mask xs (omega (arith, present_count-cons true mask)))

none_secondary : (mask : List Bool) (xs : List ℕ) → list_any is_missing2 (points_with_mask mask (map plain_point xs)) ≡ false
none_secondary [] xs = refl
none_secondary (false ∷ mask) xs = none_secondary mask xs
none_secondary (true ∷ mask) [] = none_secondary mask []
none_secondary (true ∷ mask) (x ∷ xs) = none_secondary mask xs

none_wide : (mask : List Bool) (xs : List ℕ) → All (λ n. n < 2 ^ 48) xs → list_any (is_scaled_outside (2 ^ 48 - 1)) (points_with_mask mask (map plain_point xs)) ≡ false
none_wide [] xs each = refl
none_wide (false ∷ mask) xs each = none_wide mask xs each
none_wide (true ∷ mask) [] each = none_wide mask [] each
none_wide (true ∷ mask) (x ∷ xs) each =
    let small : x < 2 ^ 48 = All-head (λ n. n < 2 ^ 48) x xs each in
    let inside : (nat_lt x 0 || nat_lt (2 ^ 48 - 1) x) ≡ false =
    ap₂ (λ (a b : Bool). a || b) (le-ltb x 0 (omega arith)) (le-ltb (2 ^ 48 - 1) x (omega arith)) in
    ap₂ (λ (a b : Bool). a || b) inside (none_wide mask xs (All-tail (λ n. n < 2 ^ 48) x xs each))

-- nothing of them fails to fit
no_misfit : (mask : List Bool) (xs : List ℕ) → All (λ n. n < 2 ^ 48) xs → first_misfit ToSimple (points_with_mask mask (map plain_point xs)) ≡ None
no_misfit mask xs each =
    let points = points_with_mask mask (map plain_point xs) in
    ap₂ (λ (a b : Bool). first_of (cond a (Some (SecondaryMissing (first_place is_missing2 points))) None) (cond b (Some (OutOfRange (first_place (is_scaled_outside (2 ^ 48 - 1)) points))) None))
    (none_secondary mask xs) (none_wide mask xs each)

-- ---- packed numbers

pub plain_small : (bs : List Bool) (w n : ℕ) → w ≤ 48 → All (λ n. n < 2 ^ 48) (plain bs w n)
plain_small bs w n few =
    let power : 2 ^ w ≤ 2 ^ 48 = pow_mono few in
    All-weaker (λ n. n < 2 ^ w) (λ n. n < 2 ^ 48) (λ n h. omega (arith, h, power)) (plain bs w n) (plain_below bs w n)

first_number : (bs : List Bool) (w n : ℕ) → plain bs w (suc n) ≡ num (take w bs) ∷ plain (drop w bs) w n
first_number bs w n =
    let one : suc n ≡ 1 + n = omega arith in
    let none : 0 * w ≡ 0 = omega arith in
    let once : w * 1 ≡ w = omega arith in
    ap (plain bs w) one ∙ plain-add bs w 1 n
    ∙ ap₂ (λ (a b : ℕ). num (take w (drop a bs)) ∷ plain (drop b bs) w n) none once

-- numbers that are written in their own width are the bits that they were read from
pub fields-plain : (w n : ℕ) (bs : List Bool) → n * w ≤ length bs → fields w (plain bs w n) ≡ take (n * w) bs
fields-plain w zero bs long = let none : 0 * w ≡ 0 = omega arith in sym (ap (λ (k : ℕ). take k bs) none)
fields-plain w (suc n) bs long =
    let more : suc n * w ≡ w + n * w = omega (arith, add-mul 1 n w) in
    let first : length (take w bs) ≡ w = length-take-le w bs (omega (arith, long, more)) in
    let number : bits_of w (num (take w bs)) ≡ take w bs = ap (λ (v : ℕ). bits_of v (num (take w bs))) (sym first) ∙ bits_of-num (take w bs) in
    let rest : fields w (plain (drop w bs) w n) ≡ take (n * w) (drop w bs) = fields-plain w n (drop w bs) (omega (arith, long, more, length-drop w bs)) in
    ap (fields w) (first_number bs w n) ∙ ap₂ ◌++◌ number rest ∙ sym (take_both w (n * w) bs) ∙ ap (λ (k : ℕ). take k bs) (sym more)

pub fields_more : (w : ℕ) (xs : List ℕ) (y : ℕ) → fields w (xs ++ y ∷ []) ≡ fields w xs ++ bits_of w y
fields_more w [] y = append-nil (bits_of w y)
fields_more w (x ∷ xs) y = ap (λ (bs : List Bool). bits_of w x ++ bs) (fields_more w xs y) ∙ sym (append_assoc (bits_of w x) (fields w xs) (bits_of w y))

-- ---- the greatest number

greatest-append : (xs ys : List ℕ) → greatest (xs ++ ys) ≡ max (greatest xs) (greatest ys)
greatest-append [] ys = omega arith
greatest-append (x ∷ xs) ys = omega (arith, greatest-append xs ys)

pub greatest_more : (bs : List Bool) (w k number now : ℕ) → now ≡ greatest (plain bs w k) → number ≡ plain_at bs w k → max number now ≡ greatest (plain bs w (k + 1))
greatest_more bs w k number now so_far is =
    let more : greatest (plain bs w (k + 1)) ≡ max (greatest (plain bs w k)) (greatest (plain_at bs w k ∷ [])) =
    ap greatest (plain_more bs w k) ∙ greatest-append (plain bs w k) (plain_at bs w k ∷ []) in
    omega (arith, more, so_far, is)

greatest_below : (bs : List Bool) (w n : ℕ) → greatest (plain bs w n) < 2 ^ w
greatest_below bs w n =
    fitting.greatest_below (2 ^ w) (plain bs w n) (pow_pos w) (plain_below bs w n)

pub greatest_small : (bs : List Bool) (w n : ℕ) → w ≤ 48 → greatest (plain bs w n) < 2 ^ 48
greatest_small bs w n few =
    let power : 2 ^ w ≤ 2 ^ 48 = pow_mono few in
    omega (arith, greatest_below bs w n, power)

-- numbers of no bits are 0
pub no_bits : (bs : List Bool) (w n : ℕ) → w ≡ 0 → 0 ≡ digits (greatest (plain bs w n))
no_bits bs w n none =
    let below : greatest (plain bs w n) < 2 ^ 0 = subst (λ (v : ℕ). greatest (plain bs w n) < 2 ^ v) none (greatest_below bs w n) in
    sym (digits-is (greatest (plain bs w n)) 0 (omega arith) below (λ h. absurd (omega (arith, h))))

pub width_most : (bs : List Bool) (w n : ℕ) → w ≤ 48 → digits (greatest (plain bs w n)) ≤ w
width_most bs w n few =
    let small = greatest_small bs w n few in
    digits-most_64 (greatest (plain bs w n)) w (omega (arith, small)) (greatest_below bs w n)

-- a number with the highest bit needs all bits
pub all_bits : (bs : List Bool) (w k count number : ℕ) → 1 ≤ w → w ≤ 48 → k < count → number ≡ plain_at bs w k → number / 2 ^ (w - 1) ≡ 1
    → w ≡ digits (greatest (plain bs w count))
all_bits bs w k count number some few within is high =
    let whole : count ≡ (k + 1) + (count - k - 1) = omega arith in
    let later = plain (drop (w * (k + 1)) bs) w (count - k - 1) in
    let split : greatest (plain bs w count) ≡ max (greatest (plain bs w (k + 1))) (greatest later) =
    ap (λ (n : ℕ). greatest (plain bs w n)) whole ∙ ap greatest (plain-add bs w (k + 1) (count - k - 1)) ∙ greatest-append (plain bs w (k + 1)) later in
    let here : max number (greatest (plain bs w k)) ≡ greatest (plain bs w (k + 1)) = greatest_more bs w k number (greatest (plain bs w k)) refl is in
    let least : 2 ^ (w - 1) ≤ number = omega (arith, clash) in
    sym (digits-is (greatest (plain bs w count)) w (omega arith) (greatest_below bs w count) (λ _. omega (arith, split, here, least)))
  where
    clash : number < 2 ^ (w - 1) → ⊥
    clash low = omega (arith, div_below number (2 ^ (w - 1)) 1 (pow_pos (w - 1)) (omega (arith, low)), high)

-- the numbers fit in the bits of the greatest
pub width_fits : (bs : List Bool) (w n v : ℕ) → w ≤ 48 → v ≡ digits (greatest (plain bs w n)) → All (λ x. x < 2 ^ v) (plain bs w n)
width_fits bs w n v few is =
    let most = greatest (plain bs w n) in
    let small = greatest_small bs w n few in
    let fits : most < 2 ^ v = subst (λ (u : ℕ). most < 2 ^ u) (sym is) (digits-lt_64 most (omega (arith, small))) in
    All-weaker (λ x. x ≤ most) (λ x. x < 2 ^ v) (λ x h. omega (arith, h, fits)) (plain bs w n) (at_most most (plain bs w n) (omega arith))

pub plain_fits : (bs : List Bool) (w n k v : ℕ) → All (λ x. x < 2 ^ v) (plain bs w n) → k < n → plain_at bs w k < 2 ^ v
plain_fits bs w n k v each within =
    subst (λ (x : ℕ). x < 2 ^ v) (get_or-map-range_with_len (plain_at bs w) 0 n k k 0 within (omega arith))
    (each k 0 (omega (arith, within, length-plain bs w n)))

-- ---- octets

-- the first k bits of an octet, and zeros
pub first_of_octet : (k x : ℕ) (front : List Bool) → k ≤ 8 → length front ≡ k → x ≡ num front
    → bits_of 8 (x * 2 ^ (8 - k) % 2 ^ 8) ≡ front ++ replicate (8 - k) false
first_of_octet k x front few long is =
    let width : 8 ≡ k + (8 - k) = omega arith in
    let plus : x * 2 ^ (8 - k) ≡ x * 2 ^ (8 - k) + 0 = omega arith in
    let own : bits_of k x ≡ front = ap (bits_of k) is ∙ ap (λ (w : ℕ). bits_of w (num front)) (sym long) ∙ bits_of-num front in
    bits_of-mod 8 (x * 2 ^ (8 - k)) ∙ ap (bits_of 8) plus
    ∙ ap (λ (w : ℕ). bits_of w (x * 2 ^ (8 - k) + 0)) width
    ∙ bits_of-join k (8 - k) x 0 (pow_pos (8 - k))
    ∙ ap₂ ◌++◌ own (bits_of-zero (8 - k))

pub nothing_left : (bs : List Bool) (k : ℕ) → k % 8 ≡ 0 → take (k % 8) bs ++ replicate ((8 - k % 8) % 8) false ≡ []
nothing_left bs k none = ap (λ (r : ℕ). take r bs ++ replicate ((8 - r) % 8) false) none

pub copied_bits : (bs : List Bool) (k : ℕ) → k ≤ length bs
    → take (8 * (k / 8)) bs ++ (take (k % 8) (drop (8 * (k / 8)) bs) ++ replicate ((8 - k % 8) % 8) false) ≡ padded (take k bs)
copied_bits bs k within =
    let whole : 8 * (k / 8) + k % 8 ≡ k = omega arith in
    let long : length (take k bs) ≡ k = length-take-le k bs within in
    let pad : (8 - k % 8) % 8 ≡ padding (take k bs) = ap (λ (n : ℕ). (8 - n % 8) % 8) (sym long) in
    let rest = replicate ((8 - k % 8) % 8) false in
    sym (append_assoc (take (8 * (k / 8)) bs) (take (k % 8) (drop (8 * (k / 8)) bs)) rest)
    ∙ ap (λ (xs : List Bool). xs ++ rest) (sym (take_both (8 * (k / 8)) (k % 8) bs) ∙ ap (λ (n : ℕ). take n bs) whole)
    ∙ ap (λ (n : ℕ). take k bs ++ replicate n false) pad

abbrev first_bit : List Bool → Bool
first_bit [] = true
first_bit (b ∷ bs) = b

none_missing : (points : List Point) (n : ℕ) → present_bits points ≡ replicate n true → list_any is_missing points ≡ false
none_missing [] n is = refl
none_missing (point ∷ points) zero is = absurd (cc)
none_missing (Scaled x ∷ points) (suc n) is = none_missing points n (ap (drop 1) is)
none_missing (Missing ∷ points) (suc n) is = absurd (let e : false ≡ true = ap first_bit is in cc)
none_missing (Missing2 ∷ points) (suc n) is = none_missing points n (ap (drop 1) is)

-- no bitmap where all points are present
pub full_bitmap : (section : List ℕ) (mask : List Bool) (points : List Point) → present_count mask ≡ length mask → HasContents 6 section (bits_of 8 255)
    → present_bits points ≡ mask → IsBitmap section points
full_bitmap section mask points full has is =
    let none = none_missing points (length mask) (is ∙ all_present mask full) in
    subst (λ (b : Bool). HasContents 6 section (cond b (bits_of 8 0 ++ present_bits points) (bits_of 8 255))) (sym none) has

all_there : (points : List Point) → list_any is_missing points ≡ false → present_count (present_bits points) ≡ length points
all_there [] none = refl
all_there (Scaled x ∷ points) none = omega (arith, all_there points none, present_count-cons true (present_bits points))
all_there (Missing ∷ points) none = absurd (cc)
all_there (Missing2 ∷ points) none = omega (arith, all_there points none, present_count-cons true (present_bits points))

-- and the mask where one is missing
pub part_bitmap : (section : List ℕ) (mask : List Bool) (points : List Point) → (present_count mask ≡ length mask → ⊥) → HasContents 6 section (bits_of 8 0 ++ mask)
    → present_bits points ≡ mask → IsBitmap section points
part_bitmap section mask points part has is = go (list_any is_missing points) refl where
  go : (b : Bool) → list_any is_missing points ≡ b → HasContents 6 section (cond b (bits_of 8 0 ++ present_bits points) (bits_of 8 255))
  go true e = subst (λ (bs : List Bool). HasContents 6 section (bits_of 8 0 ++ bs)) (sym is) has
  go false e =
      let long : length (present_bits points) ≡ length points = length-map points (λ point. not (is_missing point)) in
      absurd (part (sym (ap present_count is) ∙ all_there points e ∙ sym long ∙ ap length is))

pub copied_section : (octets section o a1 a2 a3 : List ℕ) (k n : ℕ) → o ≡ [] → a1 ≡ o ++ octets_of 4 n → a2 ≡ a1 ++ 7 ∷ [] → a3 ≡ a2 ++ take (k / 8) octets
    → bits section ≡ bits a3 ++ (take (k % 8) (drop (8 * (k / 8)) (bits octets)) ++ replicate ((8 - k % 8) % 8) false)
    → k ≤ 8 * length octets → n ≡ 5 + (k + 7) / 8 → n < 2 ^ 32 → All (λ octet. octet < 256) section → HasContents 7 section (take k (bits octets))
copied_section octets section o a1 a2 a3 k n e0 e1 e2 e3 is within long short each =
    let bs = bits octets in
    let head = head_of n 7 in
    let rest = take (k % 8) (drop (8 * (k / 8)) bs) ++ replicate ((8 - k % 8) % 8) false in
    let front : a3 ≡ head ++ take (k / 8) octets =
    e3 ∙ ap (λ (xs : List ℕ). xs ++ take (k / 8) octets) (e2 ∙ ap (λ (xs : List ℕ). xs ++ 7 ∷ []) (e1 ∙ ap (λ (xs : List ℕ). xs ++ octets_of 4 n) e0)) in
    let begun : bits a3 ≡ bits head ++ take (8 * (k / 8)) bs =
    ap bits front ∙ bits-append head (take (k / 8) octets) ∙ ap (λ (ys : List Bool). bits head ++ ys) (sym (take-bits (k / 8) octets (omega arith))) in
    let there : k ≤ length bs = omega (arith, within, length-bits octets) in
    has_contents section 7 n (take k bs) each (omega arith) short (omega (arith, long, length-padded8 (take k bs), length-take-le k bs there))
    (is ∙ ap (λ (xs : List Bool). xs ++ rest) begun ∙ append_assoc (bits head) (take (8 * (k / 8)) bs) rest ∙ ap (λ (ys : List Bool). bits head ++ ys) (copied_bits bs k there))

-- ---- all sections

-- these sections are those of the packing
pub simply_packed : (column : Column) (mask : List Bool) (numbers : List ℕ) (kind : ℕ) (s5 s6 s7 : List ℕ) → column.points ≡ points_with_mask mask (map plain_point numbers)
    → All (λ n. n < 2 ^ 48) numbers → present_count mask ≡ length numbers
    → length s5 ≡ 21 → HasNumbers s5 column (length numbers) 0 (digits (greatest numbers)) kind
    → ((points : List Point) → present_bits points ≡ mask → IsBitmap s6 points) → HasContents 7 s7 (fields (digits (greatest numbers)) numbers)
    → (first_misfit ToSimple column.points ≡ None) × IsSimple column kind s5 s6 s7
simply_packed column mask numbers kind s5 s6 s7 is small present long stand bitmap values =
    let are : numbers ≡ simple_numbers column.points = sym (ap simple_numbers is ∙ numbers_with_mask mask numbers present) in (
      ap (first_misfit ToSimple) is ∙ no_misfit mask numbers small,
      record {
        as_long = long;
        numbers = subst (λ (ns : List ℕ). HasNumbers s5 column (length ns) 0 (digits (greatest ns)) kind) are stand;
        bitmap = bitmap column.points (ap present_bits is ∙ bits_with_mask mask numbers present);
        values = subst (λ (ns : List ℕ). HasContents 7 s7 (fields (digits (greatest ns)) ns)) are values;
      },
    )
