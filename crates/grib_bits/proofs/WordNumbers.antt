-- Lemmas on a number that is taken from the word of the eight octets in which it begins.
use Rattle.std.proofs.Common.{◌≡◌, ℕ, ◌+◌, ◌-◌, ◌*◌, ◌/◌, ◌%◌, ◌^◌, ◌<◌, ◌≤◌, Bool, List, length, take, drop, bit_and, sym, ap, ◌∙◌, arith, pow_mono}
use Rattle.std.proofs.lemmas.List.{length-drop, length-take, length-take-le, take-take, take_rest, drop-take}
use Rattle.byteorder.specs.Endian.{big_number}
use Rattle.grib_bits.specs.Bits.{bits, num}
use Rattle.grib_bits.proofs.Numbers.{and_ones, num-field, num-lt}
use Rattle.grib_bits.proofs.OctetBits.{AreOctets, length-bits, take-bits, big_from-bits}
use Rattle.grib_bits.proofs.OctetNumbers.{AreOctets-drop}
use Rattle.grib_bits.proofs.Fields.{field_start}

-- a field within the first n bits
field_of_front : (n skip width : ℕ) (xs : List Bool) → skip + width ≤ n → take width (drop skip (take n xs)) ≡ take width (drop skip xs)
field_of_front n skip width xs within =
    let whole : skip + (n - skip) ≡ n = omega arith in
    ap (λ (k : ℕ). take width (drop skip (take k xs))) (sym whole)
    ∙ ap (take width) (drop-take skip (n - skip) xs)
    ∙ take-take width (n - skip) (drop skip xs) (omega arith)

-- `word >> (64 - skip - width) & mask`, where the word is that of the eight octets that begin there
pub number_in_word : (octets : List ℕ) (at width word : ℕ) → AreOctets octets → 1 ≤ width → width ≤ 48 → at / 8 + 8 ≤ length octets
    → word ≡ big_number 8 (take (length octets - at / 8) (drop (at / 8) octets))
    → bit_and (word / 2 ^ (64 - at % 8 - width)) (1 * 2 ^ width % 2 ^ 64 - 1) ≡ num (take width (drop at (bits octets)))
number_in_word octets at width word known some short within is_word =
    let rest = drop (at / 8) octets in
    let skip = at % 8 in
    let front = bits (take 8 rest) in
    let enough : 8 ≤ length rest = omega (arith, length-drop (at / 8) octets) in
    let value : word ≡ num front =
    is_word ∙ ap (big_number 8) (take_rest octets (at / 8)) ∙ big_from-bits 0 8 rest (AreOctets-drop (at / 8) octets known) enough in
    let long : length front ≡ 64 = length-bits (take 8 rest) ∙ ap (λ (n : ℕ). 8 * n) (length-take-le 8 rest enough) in
    let after : 64 - skip - width ≡ length front - (skip + width) = omega arith in
    and_ones (word / 2 ^ (64 - skip - width)) width (omega arith)
    ∙ ap (λ (k : ℕ). word / 2 ^ k % 2 ^ width) after
    ∙ ap (λ (n : ℕ). n / 2 ^ (length front - (skip + width)) % 2 ^ width) value
    ∙ sym (num-field front skip width (omega arith))
    ∙ ap (λ (xs : List Bool). num (take width (drop skip xs))) (sym (take-bits 8 rest enough))
    ∙ ap num (field_of_front (8 * 8) skip width (bits rest) (omega arith))
    ∙ ap (λ (xs : List Bool). num (take width xs)) (sym (field_start octets at (omega arith)))

-- a number of some bits
pub number-lt : (width : ℕ) (xs : List Bool) → num (take width xs) < 2 ^ width
number-lt width xs =
    let long : length (take width xs) ≤ width = omega (arith, length-take width xs) in
    let power : 2 ^ length (take width xs) ≤ 2 ^ width = pow_mono long in
    omega (arith, num-lt (take width xs))

-- of at most 48 bits
pub number-lt_48 : (width : ℕ) (xs : List Bool) → width ≤ 48 → num (take width xs) < 2 ^ 48
number-lt_48 width xs short =
    let power : 2 ^ width ≤ 2 ^ 48 = pow_mono short in
    omega (arith, number-lt width xs)
