-- Lemmas on numbers of whole octets that are taken as bits.
use Rattle.std.proofs.Common.{◌≡◌, ℕ, zero, suc, ◌+◌, ◌-◌, ◌*◌, ◌/◌, ◌%◌, ◌^◌, ◌<◌, ◌≤◌, Bool, true, false, List, [], ◌∷◌, ◌++◌, length, take, drop, get_or, refl, sym, ap, ap₂, ◌∙◌, arith, eqb, pow_mono, pos, neg_ℤ, nat_abs}
use Rattle.std.proofs.lemmas.List.{length-drop, length-take-le, length-append, drop_more}
use Rattle.grib_bits.specs.Bits.{bits, bits_of, num, signed}
use Rattle.grib_bits.specs.Octets.{octet_list, octets}
use Rattle.grib_bits.proofs.Numbers.{num-lt, length-bits_of}
use Rattle.grib_bits.proofs.OctetBits.{AreOctets, length-bits, take-bits, drop-bits, octets-num}
use Rattle.grib_bits.proofs.OctetNumbers.{AreOctets-octet_list}

-- the octets k + 1 to k + n as a list
octet_list-at : (s : List ℕ) (k n : ℕ) → octet_list s (k + 1) (k + n) ≡ take n (drop k s)
octet_list-at s k n =
    let long : k + n + 1 - (k + 1) ≡ n = omega arith in
    let before : k + 1 - 1 ≡ k = omega arith in
    ap₂ (λ (i j : ℕ). take i (drop j s)) long before

module _ (s : List ℕ) (k n : ℕ) (known : AreOctets s) (within : k + n ≤ length s) where
  -- the bits of these octets
  octets-bits : octets s (k + 1) (k + n) ≡ num (bits (take n (drop k s)))
  octets-bits = octets-num s (k + 1) (k + n) (AreOctets-octet_list s (k + 1) (k + n) known) ∙ ap (λ (os : List ℕ). num (bits os)) (octet_list-at s k n)

  -- as `get_bits` takes them
  pub field-octets : num (take (8 * n) (drop (8 * k) (bits s))) ≡ octets s (k + 1) (k + n)
  field-octets =
      let rest = drop k s in
      let all : k ≤ length s = omega arith in
      ap (λ bs. num (take (8 * n) bs)) (drop-bits k s all)
      ∙ ap num (take-bits n rest (omega (arith, length-drop k s)))
      ∙ sym octets-bits

-- a first octet of at most 127 makes the first bit 0
first_bit : (octet : ℕ) → octet ≤ 127 → eqb (octet / 2 ^ 7 % 2) 1 ≡ false
first_bit octet small =
    let nothing : octet / 2 ^ 7 ≡ 0 = omega arith in
    ap (λ (n : ℕ). eqb (n % 2) 1) nothing

-- a number whose top bit is not set
pub natural-lt : (s : List ℕ) (k n : ℕ) → AreOctets s → k + n ≤ length s → 1 ≤ n → n ≤ 4 → get_or s k 0 ≤ 127 → octets s (k + 1) (k + n) < 2 ^ 31
natural-lt s k n known within some few small =
    let octet = get_or s k 0 in
    let rest = take (n - 1) (drop (k + 1) s) in
    let whole : n ≡ suc (n - 1) = omega arith in
    let next : drop k s ≡ octet ∷ drop (k + 1) s = drop_more s k 0 (omega arith) in
    let front : take n (drop k s) ≡ octet ∷ rest = ap₂ take whole next in
    let tail = bits_of 7 octet ++ bits rest in
    let value : num (bits (octet ∷ rest)) ≡ num tail =
    ap (λ (b : Bool). num (b ∷ tail)) (first_bit octet small) ∙ omega arith in
    let long : length tail ≤ 31 = omega (arith, length-append (bits_of 7 octet) (bits rest), length-bits_of 7 octet, length-bits rest, length-take-le (n - 1) (drop (k + 1) s) (omega (arith, length-drop (k + 1) s))) in
    let power : 2 ^ length tail ≤ 2 ^ 31 = pow_mono long in
    omega (arith, octets-bits s k n known within, ap (λ (os : List ℕ). num (bits os)) front, value, num-lt tail)

-- ---- numbers with sign

pub nat_abs-neg : (n : ℕ) → nat_abs (neg_ℤ (pos n)) ≡ n
nat_abs-neg zero = refl
nat_abs-neg (suc n) = refl

pub signed-small : (bs : List Bool) → length bs ≤ 32 → nat_abs (signed bs) ≤ 2 ^ 31
signed-small [] short = omega arith
signed-small (false ∷ bs) short =
    let few : length bs ≤ 31 = omega arith in
    let power : 2 ^ length bs ≤ 2 ^ 31 = pow_mono few in
    omega (arith, num-lt bs)
signed-small (true ∷ bs) short =
    let few : length bs ≤ 31 = omega arith in
    let power : 2 ^ length bs ≤ 2 ^ 31 = pow_mono few in
    omega (arith, num-lt bs, nat_abs-neg (num bs))
