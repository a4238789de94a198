-- Lemmas on the number of some bits, and on the bits of a number.
use Rattle.std.proofs.Common.{◌≡◌, ℕ, zero, suc, ◌+◌, ◌-◌, ◌*◌, ◌/◌, ◌%◌, ◌^◌, ◌<◌, ◌≤◌, Bool, true, false, eqb, List, [], ◌∷◌, ◌++◌, length, take, drop, replicate, refl, sym, ap, ap₂, ◌∙◌, arith, mod-eq_of_lt, one-add, pow-suc, bit_and, bit_or, add-mul, mul_assoc, mul_comm}
use Rattle.std.proofs.lemmas.List.{length-append, take-append-drop, length-take-le, length-drop, take_at, drop_at, take-take, drop-take, drop-drop}
use Rattle.std.proofs.lemmas.Nat.{pow_pos, pow-add, shr_split, shr_high, mod_low, mod-pow-add, mod_below, field_of, shr_below, one_shl, and_mask, shl_below, or_shifted, mul-mod_first, shl_whole, mul-add-lt}
use Rattle.std.proofs.lemmas.Nat.Bits.{bit_at-zero}
use Rattle.grib_bits.specs.Bits.{bits_of, digit, num}

-- ---- the number of some bits

-- the test for an odd number gives its last digit
digit-below_two : (n : ℕ) → n < 2 → digit (eqb n 1) ≡ n
digit-below_two zero h = refl
digit-below_two (suc zero) h = refl
digit-below_two (suc (suc n)) h = absurd (omega arith)

pub digit-odd : (n : ℕ) → digit (eqb (n % 2) 1) ≡ n % 2
digit-odd n = digit-below_two (n % 2) (omega arith)

odd-digit : (b : Bool) → eqb (digit b % 2) 1 ≡ b
odd-digit false = refl
odd-digit true = refl

pub length-bits_of : (width n : ℕ) → length (bits_of width n) ≡ width
length-bits_of zero n = refl
length-bits_of (suc width) n = ap suc (length-bits_of width n)

-- bits before others count for more
pub num-append : (xs ys : List Bool) → num (xs ++ ys) ≡ num xs * 2 ^ length ys + num ys
num-append [] ys = omega arith
num-append (x ∷ xs) ys =
    let rest = num-append xs ys in
    let power = pow-add 2 (length xs) (length ys) in
    let long = length-append xs ys in
    rw (long, rest, power) (omega arith)

-- k bits make a number below 2 to the k
pub num-lt : (xs : List Bool) → num xs < 2 ^ length xs
num-lt [] = omega arith
num-lt (false ∷ xs) = omega (arith, num-lt xs, pow-suc 2 (length xs))
num-lt (true ∷ xs) = omega (arith, num-lt xs, pow-suc 2 (length xs))

-- what the last bits of a number make is what is left of it
pub num-bits_of : (width n : ℕ) → num (bits_of width n) ≡ n % 2 ^ width
num-bits_of zero n = omega arith
num-bits_of (suc width) n =
    let rest = num-bits_of width n in
    let long = length-bits_of width n in
    let first = digit-odd (n / 2 ^ width) in
    let split = rw one-add at (mod-pow-add n 1 width) in
    rw (long, rest, first) (omega (arith, split))

-- ---- the bits of a number

-- what is left of a number keeps its end
pub mod-mod_pow : (n j k : ℕ) → n % 2 ^ (j + k) % 2 ^ k ≡ n % 2 ^ k
mod-mod_pow n j k =
    ap (λ (m : ℕ). m % 2 ^ k) (mod-pow-add n j k) ∙ mod_low (n / 2 ^ k % 2 ^ j) k (n % 2 ^ k) (mod_below n (2 ^ k) (pow_pos k))

-- numbers that agree at their end have the same last bits
pub bits_of-same : (width m n : ℕ) → m % 2 ^ width ≡ n % 2 ^ width → bits_of width m ≡ bits_of width n
bits_of-same zero m n e = refl
bits_of-same (suc width) m n e =
    let whole : m % 2 ^ (1 + width) ≡ n % 2 ^ (1 + width) = rw one-add e in
    let first : m / 2 ^ width % 2 ≡ n / 2 ^ width % 2 =
    sym (field_of m 1 width) ∙ ap (λ (k : ℕ). k / 2 ^ width) whole ∙ field_of n 1 width in
    let rest : m % 2 ^ width ≡ n % 2 ^ width =
    sym (mod-mod_pow m 1 width) ∙ ap (λ (k : ℕ). k % 2 ^ width) whole ∙ mod-mod_pow n 1 width in
    ap₂ ◌∷◌ (ap (λ (k : ℕ). eqb k 1) first) (bits_of-same width m n rest)

-- bits are those of the number that they make
pub bits_of-num : (xs : List Bool) → bits_of (length xs) (num xs) ≡ xs
bits_of-num [] = refl
bits_of-num (x ∷ xs) =
    let first : (digit x * 2 ^ length xs + num xs) / 2 ^ length xs ≡ digit x = shr_high (digit x) (length xs) (num xs) (num-lt xs) in
    let low : (digit x * 2 ^ length xs + num xs) % 2 ^ length xs ≡ num xs % 2 ^ length xs =
    mod_low (digit x) (length xs) (num xs) (num-lt xs) ∙ sym (mod-eq_of_lt (num-lt xs)) in
    ap₂ ◌∷◌ (ap (λ (k : ℕ). eqb (k % 2) 1) first ∙ odd-digit x) (bits_of-same (length xs) _ _ low ∙ bits_of-num xs)

-- bits of one length that make one number are the same
pub same_from_num : (xs ys : List Bool) → length xs ≡ length ys → num xs ≡ num ys → xs ≡ ys
same_from_num xs ys same_length same_number = sym (bits_of-num xs) ∙ ap₂ bits_of same_length same_number ∙ bits_of-num ys

pub bits_of-zero : (width : ℕ) → bits_of width 0 ≡ replicate width false
bits_of-zero zero = refl
bits_of-zero (suc width) = ap₂ ◌∷◌ (ap (λ (k : ℕ). eqb k 1) (bit_at-zero width)) (bits_of-zero width)

-- only the last bits of a number matter
pub bits_of-mod : (width n : ℕ) → bits_of width (n % 2 ^ width) ≡ bits_of width n
bits_of-mod width n = bits_of-same width _ _ (mod-eq_of_lt (mod_below n (2 ^ width) (pow_pos width)))

-- the last j + k bits of a number are j bits and the last k
pub bits_of-add : (j k n : ℕ) → bits_of (j + k) n ≡ bits_of j (n / 2 ^ k) ++ bits_of k n
bits_of-add j k n =
    let long = length-bits_of (j + k) n in
    let high = length-bits_of j (n / 2 ^ k) in
    let low = length-bits_of k n in
    same_from_num _ _ (rw (long, length-append, high, low) refl) (rw (num-bits_of (j + k) n, num-append, num-bits_of j (n / 2 ^ k), low, num-bits_of k n) (mod-pow-add n j k))

-- a number moved to the left by k bits, with k bits behind it
pub bits_of-join : (j k a b : ℕ) → b < 2 ^ k → bits_of (j + k) (a * 2 ^ k + b) ≡ bits_of j a ++ bits_of k b
bits_of-join j k a b h =
    bits_of-add j k (a * 2 ^ k + b) ∙ ap₂ ◌++◌ (ap (bits_of j) (shr_high a k b h)) (bits_of-same k _ _ (mod_low a k b h ∙ sym (mod-eq_of_lt h)))

-- ---- parts of bits

-- the first k bits are those that stand before the others
pub num-take : (k : ℕ) (xs : List Bool) → k ≤ length xs → num (take k xs) ≡ num xs / 2 ^ (length xs - k)
num-take k xs h =
    let whole = ap num (take-append-drop k xs) in
    let split = num-append (take k xs) (drop k xs) in
    let high = shr_high (num (take k xs)) (length (drop k xs)) (num (drop k xs)) (num-lt (drop k xs)) in
    let same : num (take k xs) ≡ num xs / 2 ^ length (drop k xs) =
    sym high ∙ ap (λ (n : ℕ). n / 2 ^ length (drop k xs)) (sym split ∙ whole) in
    rw length-drop at same

pub num-drop : (k : ℕ) (xs : List Bool) → k ≤ length xs → num (drop k xs) ≡ num xs % 2 ^ (length xs - k)
num-drop k xs h =
    let whole = ap num (take-append-drop k xs) in
    let split = num-append (take k xs) (drop k xs) in
    let low = mod_low (num (take k xs)) (length (drop k xs)) (num (drop k xs)) (num-lt (drop k xs)) in
    let same : num (drop k xs) ≡ num xs % 2 ^ length (drop k xs) =
    sym low ∙ ap (λ (n : ℕ). n % 2 ^ length (drop k xs)) (sym split ∙ whole) in
    rw length-drop at same

-- the number of a field that stands anywhere in some bits
pub num-field : (xs : List Bool) (at width : ℕ) → at + width ≤ length xs → num (take width (drop at xs)) ≡ num xs / 2 ^ (length xs - (at + width)) % 2 ^ width
num-field xs at width h =
    let after = length xs - (at + width) in
    let tail : length (drop at xs) ≡ width + after = omega (arith, length-drop at xs) in
    let left : length (drop at xs) - width ≡ after = omega (arith, length-drop at xs) in
    let rest : length xs - at ≡ width + after = omega arith in
    let first : num (take width (drop at xs)) ≡ num (drop at xs) / 2 ^ after =
    num-take width (drop at xs) (omega arith) ∙ ap (λ (k : ℕ). num (drop at xs) / 2 ^ k) left in
    let second : num (drop at xs) ≡ num xs % 2 ^ (width + after) =
    num-drop at xs (omega arith) ∙ ap (λ (k : ℕ). num xs % 2 ^ k) rest in
    first ∙ ap (λ (n : ℕ). n / 2 ^ after) second ∙ field_of (num xs) width after

-- two fields side by side make one
pub num-field_split : (xs : List Bool) (at j k : ℕ) → at + (j + k) ≤ length xs → num (take (j + k) (drop at xs)) ≡ num (take j (drop at xs)) * 2 ^ k + num (take k (drop (at + j) xs))
num-field_split xs at j k h =
    let tail = drop at xs in
    let enough : k ≤ length (drop j tail) = omega (arith, length-drop at xs, length-drop j tail) in
    let long : length (take k (drop j tail)) ≡ k = length-take-le k (drop j tail) enough in
    let parts : take (j + k) tail ≡ take j tail ++ take k (drop j tail) =
    sym (take-append-drop j (take (j + k) tail)) ∙ ap₂ ◌++◌ (take-take j (j + k) tail (omega arith)) (drop-take j k tail) in
    ap num parts
    ∙ num-append (take j tail) (take k (drop j tail))
    ∙ ap₂ (λ (l : ℕ) (d : List Bool). num (take j tail) * 2 ^ l + num (take k d)) long (drop-drop j at xs)

pub take-bits_of : (k width n : ℕ) → k ≤ width → take k (bits_of width n) ≡ bits_of k (n / 2 ^ (width - k))
take-bits_of k width n h =
    let whole : k + (width - k) ≡ width = omega arith in
    let split : bits_of width n ≡ bits_of k (n / 2 ^ (width - k)) ++ bits_of (width - k) n = ap (λ (w : ℕ). bits_of w n) (sym whole) ∙ bits_of-add k (width - k) n in
    ap (take k) split ∙ take_at _ _ k (length-bits_of k _)

pub drop-bits_of : (k width n : ℕ) → k ≤ width → drop k (bits_of width n) ≡ bits_of (width - k) n
drop-bits_of k width n h =
    let whole : k + (width - k) ≡ width = omega arith in
    let split : bits_of width n ≡ bits_of k (n / 2 ^ (width - k)) ++ bits_of (width - k) n = ap (λ (w : ℕ). bits_of w n) (sym whole) ∙ bits_of-add k (width - k) n in
    ap (drop k) split ∙ drop_at _ _ k (length-bits_of k _)

-- the first bits of a number that has no more bits than the list
pub num-take_bits_of : (k width n : ℕ) → k ≤ width → n < 2 ^ width → num (take k (bits_of width n)) ≡ n / 2 ^ (width - k)
num-take_bits_of k width n h fits =
    let whole : k + (width - k) ≡ width = omega arith in
    let below : n < 2 ^ (k + (width - k)) = rw whole fits in
    ap num (take-bits_of k width n h) ∙ num-bits_of k (n / 2 ^ (width - k)) ∙ mod-eq_of_lt (shr_below n k (width - k) below)

-- ---- what shifts and masks of 64 bits compute

-- a mask of k ones
pub and_ones : (n k : ℕ) → k < 64 → bit_and n (1 * 2 ^ k % 2 ^ 64 - 1) ≡ n % 2 ^ k
and_ones n k h = ap (λ (m : ℕ). bit_and n (m - 1)) (one_shl k 64 h) ∙ and_mask n k

-- the bits of `n & mask`, with a mask of k ones
pub bits_of-and_ones : (n k : ℕ) → k < 64 → bits_of k (bit_and n (1 * 2 ^ k % 2 ^ 64 - 1)) ≡ bits_of k n
bits_of-and_ones n k h = ap (bits_of k) (and_ones n k h) ∙ bits_of-mod k n

-- `a << k` at 64 bits keeps the last 64 - k bits of a
pub shl_low : (a k : ℕ) → k ≤ 64 → a * 2 ^ k % 2 ^ 64 ≡ a % 2 ^ (64 - k) * 2 ^ k
shl_low a k h =
    let high = a / 2 ^ (64 - k) in
    let low = a % 2 ^ (64 - k) in
    let whole : (64 - k) + k ≡ 64 = omega arith in
    let power : 2 ^ (64 - k) * 2 ^ k ≡ 2 ^ 64 = sym (pow-add 2 (64 - k) k) ∙ ap (λ (j : ℕ). 2 ^ j) whole in
    let below : low * 2 ^ k < 2 ^ 64 =
    let p : low * 2 ^ k < 2 ^ ((64 - k) + k) = shl_below low (64 - k) k (mod_below a (2 ^ (64 - k)) (pow_pos (64 - k))) in
    rw whole at p in
    let parts : a * 2 ^ k ≡ high * 2 ^ 64 + low * 2 ^ k =
    ap (λ (n : ℕ). n * 2 ^ k) (sym (shr_split a (64 - k))) ∙ add-mul (high * 2 ^ (64 - k)) low (2 ^ k)
    ∙ ap (λ (n : ℕ). n + low * 2 ^ k) (mul_assoc high (2 ^ (64 - k)) (2 ^ k) ∙ ap (λ (n : ℕ). high * n) power) in
    ap (λ (n : ℕ). n % 2 ^ 64) parts ∙ mod_low high 64 (low * 2 ^ k) below

-- the bits of `a << k | b`, where b has k bits
pub bits_of-shl_or : (j k a b : ℕ) → j + k ≤ 64 → b < 2 ^ k → bits_of (j + k) (bit_or (a * 2 ^ k % 2 ^ 64) b) ≡ bits_of j a ++ bits_of k b
bits_of-shl_or j k a b within fits =
    let low = a % 2 ^ (64 - k) in
    let sum : bit_or (a * 2 ^ k % 2 ^ 64) b ≡ low * 2 ^ k + b =
    ap (λ (n : ℕ). bit_or n b) (shl_low a k (omega arith)) ∙ or_shifted low k b fits in
    let wide : (64 - k - j) + j ≡ 64 - k = omega arith in
    let kept : low % 2 ^ j ≡ a % 2 ^ j = rw wide at (mod-mod_pow a (64 - k - j) j) in
    ap (bits_of (j + k)) sum ∙ bits_of-join j k low b fits ∙ ap (λ (xs : List Bool). xs ++ bits_of k b) (bits_of-same j low a kept)

-- `(a << k) + b` is `a << k | b`, where b has k bits, and does not overflow
pub shl_plus : (a k b : ℕ) → k ≤ 64 → b < 2 ^ k → a * 2 ^ k % 2 ^ 64 + b ≡ bit_or (a * 2 ^ k % 2 ^ 64) b
shl_plus a k b within fits =
    let low = a % 2 ^ (64 - k) in
    ap (λ (n : ℕ). n + b) (shl_low a k within) ∙ sym (or_shifted low k b fits)
    ∙ ap (λ (n : ℕ). bit_or n b) (sym (shl_low a k within))

pub shl_plus-lt : (a k b : ℕ) → k ≤ 64 → b < 2 ^ k → a * 2 ^ k % 2 ^ 64 + b < 2 ^ 64
shl_plus-lt a k b within fits =
    let low = a % 2 ^ (64 - k) in
    let whole : k + (64 - k) ≡ 64 = omega arith in
    let power : 2 ^ k * 2 ^ (64 - k) ≡ 2 ^ 64 = sym (pow-add 2 k (64 - k)) ∙ ap (λ (j : ℕ). 2 ^ j) whole in
    let below : low * 2 ^ k + b < 2 ^ k * 2 ^ (64 - k) =
    mul-add-lt low (2 ^ k) b (2 ^ (64 - k)) (mod_below a (2 ^ (64 - k)) (pow_pos (64 - k))) fits in
    omega (arith, shl_low a k within, below, power)

-- a shift by k in two steps, of which neither is by 64
pub shl_shl_one : (a k : ℕ) → 0 < k → a * 2 ^ (k - 1) % 2 ^ 64 * 2 ^ 1 % 2 ^ 64 ≡ a * 2 ^ k % 2 ^ 64
shl_shl_one a k h =
    let whole : (k - 1) + 1 ≡ k = omega arith in
    let power : a * 2 ^ (k - 1) * 2 ^ 1 ≡ a * 2 ^ k =
    mul_assoc a (2 ^ (k - 1)) (2 ^ 1) ∙ ap (λ (n : ℕ). a * n) (sym (pow-add 2 (k - 1) 1) ∙ ap (λ (j : ℕ). 2 ^ j) whole) in
    mul-mod_first (a * 2 ^ (k - 1)) (2 ^ 1) (2 ^ 64) ∙ ap (λ (n : ℕ). n % 2 ^ 64) power

-- `a << k | b` has no more bits than a and b
pub shl_or-lt : (j k a b : ℕ) → j + k ≤ 64 → a < 2 ^ j → b < 2 ^ k → bit_or (a * 2 ^ k % 2 ^ 64) b < 2 ^ (j + k)
shl_or-lt j k a b within fits_a fits_b =
    let sum : bit_or (a * 2 ^ k % 2 ^ 64) b ≡ a * 2 ^ k + b =
    ap (λ (n : ℕ). bit_or n b) (shl_whole a j k 64 fits_a within) ∙ or_shifted a k b fits_b in
    let below : a * 2 ^ k + b < 2 ^ k * 2 ^ j = mul-add-lt a (2 ^ k) b (2 ^ j) fits_a fits_b in
    rw (sum, pow-add 2 j k) (omega (arith, mul_comm (2 ^ k) (2 ^ j)))
