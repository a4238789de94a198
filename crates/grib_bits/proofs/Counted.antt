-- Numbers of some octets of a section, counted from 1.
use Rattle.std.proofs.Common.{◌≡◌, ℕ, ◌+◌, ◌-◌, ◌*◌, ◌^◌, ◌<◌, ◌≤◌, List, length, take, drop, ap, ◌∙◌, arith, pow_mono, take-take}
use Rattle.std.proofs.lemmas.List.{drop-take}
use Rattle.byteorder.specs.Endian.{big_number}
use Rattle.grib_bits.specs.Octets.{octets, octet_list}
use Rattle.grib_bits.proofs.OctetBits.{AreOctets}
use Rattle.grib_bits.proofs.OctetNumbers.{big_number-rest, octets-lt}

-- a number of at most four octets fits 32 bits
pub octets-lt_32 : (s : List ℕ) (first size : ℕ) → AreOctets s → 1 ≤ first → 1 ≤ size → size ≤ 4 → first + size ≤ length s + 1 → octets s first (first + size - 1) < 2 ^ 32
octets-lt_32 s first size known counted some word within =
    let below = octets-lt s first (first + size - 1) size known counted (omega arith) (omega arith) in
    let power : 2 ^ (8 * size) ≤ 2 ^ 32 = let short : 8 * size ≤ 32 = omega arith in pow_mono short in
    omega arith

-- as `read_uint` gives it
pub big_number-size : (s : List ℕ) (first size : ℕ) → AreOctets s → 1 ≤ first → 1 ≤ size → first + size ≤ length s + 1
    → big_number size (take (length s - (first - 1)) (drop (first - 1) s)) ≡ octets s first (first + size - 1)
big_number-size s first size known counted some within = big_number-rest s first (first + size - 1) size known counted (omega arith) (omega arith)

-- octets of the first n octets of a message
pub list_of_front : (m : List ℕ) (n first last : ℕ) → 1 ≤ first → first ≤ last → last ≤ n → octet_list (take n m) first last ≡ octet_list m first last
list_of_front m n first last low order within =
    let split : n ≡ (first - 1) + (n - (first - 1)) = omega arith in
    let fits : last + 1 - first ≤ n - (first - 1) = omega arith in
    ap (λ k. take (last + 1 - first) (drop (first - 1) (take k m))) split
    ∙ (ap (take (last + 1 - first)) (drop-take (first - 1) (n - (first - 1)) m) ∙ take-take (last + 1 - first) (n - (first - 1)) (drop (first - 1) m) fits)

-- the octets of the number of `7777` are four times 55
pub mark_number : (a b c d : ℕ) → a < 256 → b < 256 → c < 256 → d < 256
    → (((0 * 256 + a) * 256 + b) * 256 + c) * 256 + d ≡ 926365495
    → (a ≡ 55) × (b ≡ 55) × (c ≡ 55) × (d ≡ 55)
mark_number a b c d ha hb hc hd e =
    let first : a ≡ 55 = omega arith in
    let second : b ≡ 55 = omega arith in
    let third : c ≡ 55 = omega arith in
    (first, second, third, omega arith)
