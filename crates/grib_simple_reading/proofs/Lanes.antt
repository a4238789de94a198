-- Lemmas on numbers of one octet or of two that are made by lanes, eight at a time.
use Rattle.std.proofs.Common.{◌≡◌, ℕ, zero, suc, ◌+◌, ◌-◌, ◌*◌, ◌/◌, ◌%◌, ◌^◌, ◌<◌, ◌≤◌, Bool, List, [], ◌∷◌, ◌++◌, length, take, drop, get_or, map, bit_or, refl, sym, ap, ap₂, ◌∙◌, arith, append_assoc}
use Rattle.std.proofs.lemmas.List.{length-drop, drop_more}
use Rattle.std.specs.Simd.Lanes.{number_l}
use Rattle.byteorder.specs.Endian.{big_from}
use Rattle.grib_bits.specs.Bits.{bits, num}
use Rattle.grib_bits.specs.Plain.{plain, plain_at}
use Rattle.grib_bits.proofs.Numbers.{shl_plus}
use Rattle.grib_bits.proofs.OctetBits.{AreOctets, take-bits, drop-bits, big_from-bits}
use Rattle.grib_simple_reading.specs.Part.{plain_from}
use Rattle.grib_simple_reading.proofs.Unpacking.{plain_from-append}

-- a function that leaves each number as it is
pub map_same : (f : ℕ → ℕ) → ((x : ℕ) → f x ≡ x) → (xs : List ℕ) → map f xs ≡ xs
map_same f same [] = refl
map_same f same (x ∷ xs) = ap₂ ◌∷◌ (same x) (map_same f same xs)

-- the number of n octets
number_of_octets : (octets : List ℕ) (n width k at : ℕ) → AreOctets octets → width ≡ 8 * n → k * width ≡ 8 * at → at + n ≤ length octets
    → plain_at (bits octets) width k ≡ big_from at n octets
number_of_octets octets n width k at known is_width place within =
    ap₂ (λ v p. num (take v (drop p (bits octets)))) is_width place
    ∙ ap (λ (xs : List Bool). num (take (8 * n) xs)) (drop-bits at octets (omega arith))
    ∙ ap num (take-bits n (drop at octets) (omega (arith, length-drop at octets)))
    ∙ sym (big_from-bits at n octets known within)

pub plain_octets : (octets : List ℕ) → AreOctets octets → (n at : ℕ) → at + n ≤ length octets → take n (drop at octets) ≡ plain_from (bits octets) 8 at n
plain_octets octets known zero at within = refl
plain_octets octets known (suc n) at within =
    let one : big_from at 1 octets ≡ get_or octets at 0 * 1 + 0 = refl in
    let here : plain_at (bits octets) 8 at ≡ get_or octets at 0 =
    number_of_octets octets 1 8 at at known refl (omega arith) (omega arith) ∙ one ∙ omega arith in
    ap (take (suc n)) (drop_more octets at 0 (omega arith)) ∙ ap₂ ◌∷◌ (sym here) (plain_octets octets known n (at + 1) (omega arith))

-- pairs of octets whose octets change places, where the first octet of a pair counts ones
abbrev pub swapped : ℕ → ℕ → List ℕ
swapped zero all = []
swapped (suc n) all = bit_or (all % 65536 * 256 % 65536) (all % 65536 / 256) ∷ swapped n (all / 65536)

swapped_pair : (x y rest all : ℕ) → x < 256 → y < 256 → all ≡ x + 256 * (y + 256 * rest)
    → bit_or (all % 65536 * 256 % 65536) (all % 65536 / 256) ≡ x * 256 + y
swapped_pair x y rest all small_x small_y is_all =
    let pair : all % 65536 ≡ x + 256 * y = omega arith in
    let high : all % 65536 * 256 % 65536 ≡ x * 2 ^ 8 % 2 ^ 64 = omega arith in
    let low : all % 65536 / 256 ≡ y = omega arith in
    let below : y < 2 ^ 8 = omega arith in
    ap₂ bit_or high low ∙ sym (shl_plus x 8 y (omega arith) below) ∙ omega arith

pub plain_pairs : (octets : List ℕ) → AreOctets octets → (n k at : ℕ) → at ≡ 2 * k → at + 2 * n ≤ length octets
    → swapped n (number_l 256 (take (2 * n) (drop at octets))) ≡ plain_from (bits octets) 16 k n
plain_pairs octets known zero k at is_at within = refl
plain_pairs octets known (suc n) k at is_at within =
    let x = get_or octets at 0 in
    let y = get_or octets (at + 1) 0 in
    let after = take (2 * n) (drop (at + 1 + 1) octets) in
    let rest = number_l 256 after in
    let count : 2 * suc n ≡ suc (suc (2 * n)) = omega arith in
    let parts : take (2 * suc n) (drop at octets) ≡ x ∷ y ∷ after =
    ap (λ m. take m (drop at octets)) count
    ∙ ap (take (suc (suc (2 * n)))) (drop_more octets at 0 (omega arith) ∙ ap (λ ys. x ∷ ys) (drop_more octets (at + 1) 0 (omega arith))) in
    let all = x + 256 * (y + 256 * rest) in
    let second : suc at ≡ at + 1 = omega arith in
    let two : big_from at 2 octets ≡ x * 256 + (get_or octets (suc at) 0 * 1 + 0) = refl in
    let here : plain_at (bits octets) 16 k ≡ x * 256 + y =
    number_of_octets octets 2 16 k at known refl (omega arith) (omega arith)
    ∙ two ∙ ap (λ j. x * 256 + (get_or octets j 0 * 1 + 0)) second ∙ omega arith in
    let small_x : x < 256 = known at in
    let small_y : y < 256 = known (at + 1) in
    let left : all / 65536 ≡ rest = omega arith in
    ap (λ ys. swapped (suc n) (number_l 256 ys)) parts
    ∙ ap₂ ◌∷◌ (swapped_pair x y rest all small_x small_y refl ∙ sym here)
    (ap (swapped n) left ∙ plain_pairs octets known n (k + 1) (at + 1 + 1) (omega arith) (omega arith))

-- eight numbers more
pub pushed_eight : (xs : List Bool) (width index : ℕ) (more old items new : List ℕ)
    → items ≡ old ++ plain xs width (8 * index) → more ≡ plain_from xs width (8 * index) 8 → new ≡ items ++ more
    → new ≡ old ++ plain xs width (8 * (index + 1))
pushed_eight xs width index more old items new before is_more is_new =
    let first = plain xs width (8 * index) in
    let place : 0 + 8 * index ≡ 8 * index = omega arith in
    let count : 8 * index + 8 ≡ 8 * (index + 1) = omega arith in
    let both : first ++ plain_from xs width (8 * index) 8 ≡ plain xs width (8 * (index + 1)) =
    ap (λ n. first ++ plain_from xs width n 8) (sym place) ∙ sym (plain_from-append xs width 0 (8 * index) 8) ∙ ap (plain xs width) count in
    is_new ∙ ap₂ ◌++◌ before is_more
    ∙ append_assoc old first (plain_from xs width (8 * index) 8)
    ∙ ap (λ ys. old ++ ys) both

-- the numbers after those
pub numbers_both : (xs : List Bool) (width middle last : ℕ) (old items new : List ℕ) → middle ≤ last
    → items ≡ old ++ plain xs width middle → new ≡ items ++ map (λ x. x) (plain_from xs width middle (last - middle)) → new ≡ old ++ plain xs width last
numbers_both xs width middle last old items new ordered before is_new =
    let first = plain xs width middle in
    let more = plain_from xs width middle (last - middle) in
    let place : 0 + middle ≡ middle = omega arith in
    let count : middle + (last - middle) ≡ last = omega arith in
    let both : first ++ more ≡ plain xs width last =
    ap (λ n. first ++ plain_from xs width n (last - middle)) (sym place) ∙ sym (plain_from-append xs width 0 middle (last - middle)) ∙ ap (plain xs width) count in
    is_new ∙ ap₂ ◌++◌ before (map_same (λ x. x) (λ x. refl) more)
    ∙ append_assoc old first more
    ∙ ap (λ ys. old ++ ys) both
