-- How far a number may be shifted to the left.
use Rattle.std.proofs.Common.{◌≡◌, ℕ, zero, suc, ◌+◌, ◌-◌, ◌*◌, ◌/◌, ◌%◌, ◌^◌, ◌<◌, ◌≤◌, sym, ap, ◌∙◌, subst, arith}
use Rattle.std.proofs.Math.Nat.{pow-suc, pow-le-pow_right, mul-le-mul_right, lt_of_lt_of_le, mul_assoc}
use Rattle.std.proofs.lemmas.Nat.{pow-add, pow_pos, shl_below, leading_length, shr_split, mod_below}
use Rattle.std.proofs.lemmas.Nat.Bits.{bit_at-trailing_zeros, same_from_bits_below, bit_at_cat_low, bit_at-zero}
use Rattle.std.specs.Int.{w32, trailing_zeros, bit_at}
use Rattle.grib_dyadic.specs.Length.{IsLength}

-- 2 to the length is at most twice the number
pub IsLength-twice : (length number : ℕ) → IsLength length number → 0 < number → 2 ^ length ≤ 2 * number
IsLength-twice zero number l some = omega arith
IsLength-twice (suc length) number l some = omega (arith, l.least, pow-suc 2 length)

-- a number that is shifted keeps below 2 ^ n if its bits and the shift are at most n
pub shifted_below : (length number shift n : ℕ) → IsLength length number → length + shift ≤ n → number * 2 ^ shift < 2 ^ n
shifted_below length number shift n l room = lt_of_lt_of_le (shl_below number length shift l.holds) (pow-le-pow_right (omega arith) room)

-- and only then
pub shifted_room : (length number shift n : ℕ) → IsLength length number → 0 < number → number * 2 ^ shift < 2 ^ n → length + shift ≤ n
shifted_room length number shift n l some below = omega (arith, clash)
  where
    clash : n < length + shift → ⊥
    clash more =
        let high : 2 ^ (suc n) ≤ 2 ^ (length + shift) = pow-le-pow_right (omega arith) more in
        let twice = mul-le-mul_right (2 ^ shift) (IsLength-twice length number l some) in
        omega (arith, high, pow-suc 2 n, pow-add 2 length shift, mul_assoc 2 number (2 ^ shift))

-- what is not 0 stays at or above 2 ^ n if its bits and the shift are n + 1
pub shifted_above : (length number shift n : ℕ) → IsLength length number → 0 < number → length + shift ≡ suc n → 2 ^ n ≤ number * 2 ^ shift
shifted_above length number shift n l some is =
    let twice = mul-le-mul_right (2 ^ shift) (IsLength-twice length number l some) in
    let all = ap (λ k. 2 ^ k) is in
    omega (arith, all, pow-suc 2 n, pow-add 2 length shift, mul_assoc 2 number (2 ^ shift))

-- each number below 2 ^ n has a length
pub IsLength-some : (n number : ℕ) → number < 2 ^ n → (length : ℕ) × IsLength length number
IsLength-some n number below =
    let l = leading_length n number below in
    (l.0, record { holds = l.2; least = l.3 })

pub IsLength-leading : (n number zeros : ℕ) → (length : ℕ) × (zeros + length ≡ n) × (number < 2 ^ length) × (2 ^ length ≤ 2 * number + 1) → IsLength (n - zeros) number
IsLength-leading n number zeros l =
    let e : l.0 ≡ n - zeros = omega (arith, l.1) in
    let P : ℕ → Type 0 = λ k. IsLength k number in
    subst P e (record { holds = l.2; least = l.3 })

-- without its zeros at the end a number is odd, and they make the number of it
pub without_zeros : (n : ℕ) → 0 < n → n < 2 ^ 32 → let zeros = trailing_zeros w32 n in (zeros < 32) × (n / 2 ^ zeros % 2 ≡ 1) × (n / 2 ^ zeros * 2 ^ zeros ≡ n)
without_zeros n some small =
    let zeros = trailing_zeros w32 n in
    let t = bit_at-trailing_zeros w32 n some small in
    let split = shr_split n zeros in
    let low : n % 2 ^ zeros < 2 ^ zeros = mod_below n (2 ^ zeros) (pow_pos zeros) in
    let none : n % 2 ^ zeros ≡ 0 = same_from_bits_below zeros (n % 2 ^ zeros) 0 low (pow_pos zeros) (λ i h. sym (bit_at_cat_low (n / 2 ^ zeros) zeros (n % 2 ^ zeros) i h) ∙ ap (λ k. bit_at k i) split ∙ t.2 i h ∙ sym (bit_at-zero i)) in
    (t.0, t.1, omega arith)
