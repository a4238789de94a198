-- Lemmas on the bits of octets, and on the numbers that octets make.
use Rattle.std.proofs.Common.{◌≡◌, ℕ, zero, suc, ◌+◌, ◌-◌, ◌*◌, ◌/◌, ◌%◌, ◌^◌, ◌<◌, ◌≤◌, Bool, List, [], ◌∷◌, ◌++◌, length, take, drop, get_or, refl, sym, ap, ap₂, ◌∙◌, arith, mod-eq_of_lt, pow-suc, add-one, div-one, append_assoc, replicate}
use Rattle.std.proofs.lemmas.List.{length-append, take-append-drop, length-take-le, length-drop, take_at, drop_at, drop_more, replicate-append-replicate, length-replicate}
use Rattle.std.proofs.lemmas.Nat.{pow-add}
use Rattle.std.specs.Int.{w64, byte_at, bytes_high_first, to_be_bytes}
use Rattle.byteorder.specs.Endian.{big_from}
use Rattle.grib_bits.specs.Bits.{bits, bits_of, num}
use Rattle.grib_bits.specs.Octets.{num_on, octet_list, octets}
use Rattle.grib_bits.proofs.Numbers.{num-append, num-bits_of, bits_of-add, bits_of-mod}

-- what is known of octets that a slice holds
abbrev pub AreOctets : List ℕ → Type 0
AreOctets xs = (i : ℕ) → get_or xs i 0 < 256

pub length-bits : (xs : List ℕ) → length (bits xs) ≡ 8 * length xs
length-bits [] = refl
length-bits (x ∷ xs) = omega (arith, length-bits xs)

pub bits-append : (xs ys : List ℕ) → bits (xs ++ ys) ≡ bits xs ++ bits ys
bits-append [] ys = refl
bits-append (x ∷ xs) ys = ap (λ (r : List Bool). bits_of 8 x ++ r) (bits-append xs ys)

-- the first and the last octets have the first and the last bits
pub take-bits : (k : ℕ) (xs : List ℕ) → k ≤ length xs → take (8 * k) (bits xs) ≡ bits (take k xs)
take-bits k xs h =
    let parts : bits xs ≡ bits (take k xs) ++ bits (drop k xs) = ap bits (sym (take-append-drop k xs)) ∙ bits-append (take k xs) (drop k xs) in
    ap (take (8 * k)) parts ∙ take_at _ _ (8 * k) (length-bits (take k xs) ∙ ap (λ (n : ℕ). 8 * n) (length-take-le k xs h))

pub drop-bits : (k : ℕ) (xs : List ℕ) → k ≤ length xs → drop (8 * k) (bits xs) ≡ bits (drop k xs)
drop-bits k xs h =
    let parts : bits xs ≡ bits (take k xs) ++ bits (drop k xs) = ap bits (sym (take-append-drop k xs)) ∙ bits-append (take k xs) (drop k xs) in
    ap (drop (8 * k)) parts ∙ drop_at _ _ (8 * k) (length-bits (take k xs) ∙ ap (λ (n : ℕ). 8 * n) (length-take-le k xs h))

-- 256 to the k is 2 to the 8 k
pub pow_256 : (k : ℕ) → 256 ^ k ≡ 2 ^ (8 * k)
pow_256 zero = refl
pow_256 (suc k) =
    let whole : 8 + 8 * k ≡ 8 * suc k = omega arith in
    let power : 2 ^ (8 * suc k) ≡ 2 ^ 8 * 2 ^ (8 * k) = ap (λ (j : ℕ). 2 ^ j) (sym whole) ∙ pow-add 2 8 (8 * k) in
    omega (arith, pow_256 k, pow-suc 256 k, power)

-- an octet counts 256 to the number of octets after it
pub num-bits : (x : ℕ) (xs : List ℕ) → x < 256 → num (bits (x ∷ xs)) ≡ x * 256 ^ length xs + num (bits xs)
num-bits x xs h =
    let octet : num (bits_of 8 x) ≡ x = num-bits_of 8 x ∙ mod-eq_of_lt h in
    let power : 2 ^ length (bits xs) ≡ 256 ^ length xs = ap (λ (k : ℕ). 2 ^ k) (length-bits xs) ∙ sym (pow_256 (length xs)) in
    num-append (bits_of 8 x) (bits xs) ∙ ap₂ (λ (m n : ℕ). m * n + num (bits xs)) octet power

-- the number that octets make is that of their bits
pub num_on-bits : (n : ℕ) (xs : List ℕ) → AreOctets xs → num_on n xs ≡ n * 256 ^ length xs + num (bits xs)
num_on-bits n [] h = omega arith
num_on-bits n (x ∷ xs) h =
    let rest = num_on-bits (n * 256 + x) xs (λ i. h (suc i)) in
    let first = num-bits x xs (h 0) in
    let power = pow-suc 256 (length xs) in
    rw (rest, first, power) (omega arith)

pub octets-num : (section : List ℕ) (first last : ℕ) → AreOctets (octet_list section first last) → octets section first last ≡ num (bits (octet_list section first last))
octets-num section first last h = omega (arith, num_on-bits 0 (octet_list section first last) h)

-- the same number, as `read_u64` and its like read it
pub big_from-bits : (i n : ℕ) (xs : List ℕ) → AreOctets xs → i + n ≤ length xs → big_from i n xs ≡ num (bits (take n (drop i xs)))
big_from-bits i zero xs h within = refl
big_from-bits i (suc n) xs h within =
    let rest = big_from-bits (suc i) n xs h (omega arith) in
    let behind = take n (drop (suc i) xs) in
    let long : length behind ≡ n = length-take-le n (drop (suc i) xs) (omega (arith, length-drop (suc i) xs)) in
    let next : drop i xs ≡ get_or xs i 0 ∷ drop (suc i) xs = rw add-one at (drop_more xs i 0 (omega arith)) in
    let first : num (bits (get_or xs i 0 ∷ behind)) ≡ get_or xs i 0 * 256 ^ n + num (bits behind) =
    num-bits (get_or xs i 0) behind (h i) ∙ ap (λ (k : ℕ). get_or xs i 0 * 256 ^ k + num (bits behind)) long in
    ap (λ (m : ℕ). get_or xs i 0 * 256 ^ n + m) rest ∙ sym first ∙ ap (λ (ys : List ℕ). num (bits (take (suc n) ys))) (sym next)

-- an octet of a number, counted from its end
pub byte_at-pow : (k n : ℕ) → byte_at k n ≡ n / 2 ^ (8 * k) % 256
byte_at-pow zero n = ap (λ (m : ℕ). m % 256) (sym (div-one n))
byte_at-pow (suc k) n = ap (λ (m : ℕ). n / m % 256) (pow_256 (suc k))

-- the octets of a number, as `to_be_bytes` gives them, have its bits
pub bits-bytes_high_first : (k n : ℕ) → bits (bytes_high_first k n) ≡ bits_of (8 * k) n
bits-bytes_high_first zero n = refl
bits-bytes_high_first (suc k) n =
    let octet : bits_of 8 (byte_at k n) ≡ bits_of 8 (n / 2 ^ (8 * k)) =
    ap (bits_of 8) (byte_at-pow k n) ∙ bits_of-mod 8 (n / 2 ^ (8 * k)) in
    let whole : 8 + 8 * k ≡ 8 * suc k = omega arith in
    ap₂ ◌++◌ octet (bits-bytes_high_first k n) ∙ sym (bits_of-add 8 (8 * k) n) ∙ ap (λ (j : ℕ). bits_of j n) whole

pub bits-to_be_bytes : (n k : ℕ) → k ≡ 64 → bits (to_be_bytes w64 n) ≡ bits_of k n
bits-to_be_bytes n k e = bits-bytes_high_first 8 n ∙ ap (λ (j : ℕ). bits_of j n) (sym e)

-- octets with zeros after them, up to m octets
pub take-padded : (xs : List ℕ) (m : ℕ) → length xs ≤ m → take m (xs ++ replicate m 0) ≡ xs ++ replicate (m - length xs) 0
take-padded xs m h =
    let n = length xs in
    let zeros : List ℕ = replicate (m - n) 0 in
    let whole : (m - n) + n ≡ m = omega arith in
    let split : replicate m 0 ≡ zeros ++ replicate n 0 = ap (λ (k : ℕ). replicate k 0) (sym whole) ∙ sym (replicate-append-replicate (m - n) n 0) in
    let long : length (xs ++ zeros) ≡ m = omega (arith, length-append xs zeros, length-replicate {A = ℕ} (m - n) 0) in
    ap (λ (zs : List ℕ). take m (xs ++ zs)) split ∙ ap (take m) (sym (append_assoc xs zeros (replicate n 0))) ∙ take_at (xs ++ zeros) (replicate n 0) m long

AreOctets-zeros : (k i : ℕ) → get_or (replicate k 0) i 0 < 256
AreOctets-zeros zero i = omega arith
AreOctets-zeros (suc k) zero = omega arith
AreOctets-zeros (suc k) (suc i) = AreOctets-zeros k i

pub AreOctets-padded : (xs : List ℕ) (k : ℕ) → AreOctets xs → AreOctets (xs ++ replicate k 0)
AreOctets-padded [] k h i = AreOctets-zeros k i
AreOctets-padded (x ∷ xs) k h zero = h 0
AreOctets-padded (x ∷ xs) k h (suc i) = AreOctets-padded xs k (λ j. h (suc j)) i

-- octets with the same bits are the same
pub same_from_bits : (xs ys : List ℕ) → AreOctets xs → AreOctets ys → bits xs ≡ bits ys → xs ≡ ys
same_from_bits [] [] known_x known_y e = refl
same_from_bits [] (y ∷ ys) known_x known_y e = cc
same_from_bits (x ∷ xs) [] known_x known_y e = cc
same_from_bits (x ∷ xs) (y ∷ ys) known_x known_y e =
    let first : x ≡ y =
    sym (mod-eq_of_lt (known_x 0)) ∙ sym (num-bits_of 8 x) ∙ ap (λ (zs : List Bool). num (take 8 zs)) e
    ∙ num-bits_of 8 y ∙ mod-eq_of_lt (known_y 0) in
    ap₂ ◌∷◌ first (same_from_bits xs ys (λ i. known_x (suc i)) (λ i. known_y (suc i)) (ap (drop 8) e))
