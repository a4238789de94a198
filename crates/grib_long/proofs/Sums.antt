-- Sums of which one part counts more than the other.
use Rattle.std.proofs.Common.{◌≡◌, ◌≢◌, ℕ, zero, suc, ◌⊎◌, inl, inr, ◌+◌, ◌-◌, ◌*◌, ◌/◌, ◌%◌, ◌^◌, ◌<◌, ◌≤◌, ℤ, pos, negsuc, ◌+ℤ◌, ◌*ℤ◌, ◌<ℤ◌, ◌≤ℤ◌, nat_abs, refl, sym, ap, ◌∙◌, arith}
use Rattle.std.proofs.lemmas.Int.{ints, unsigned_abs-mul}
use Rattle.std.proofs.lemmas.Nat.{pow-add, pow_pos, shl_whole, div-add-mod'}
use Rattle.std.proofs.Math.Nat.{mul_assoc, mul-pos, mul-le-mul_right, pow-le-pow_right}

-- the power of a shift, by its whole digits and the bits that are left
pub shift_is : (h shift : ℕ) → 64 ≤ shift → h ≤ 2 ^ 63 → h * 2 ^ (shift % 32) % 2 ^ 128 * 2 ^ (32 * (shift / 32 - 2)) * 2 ^ 64 ≡ h * 2 ^ shift
shift_is h shift far few =
    let bits = shift % 32 in
    let digits = shift / 32 - 2 in
    let whole : h * 2 ^ bits % 2 ^ 128 ≡ h * 2 ^ bits = shl_whole h 64 bits 128 (omega arith) (omega arith) in
    let sum : bits + 32 * digits + 64 ≡ shift = omega (arith, div-add-mod' shift 32) in
    let powers : 2 ^ shift ≡ 2 ^ bits * 2 ^ (32 * digits) * 2 ^ 64 = ap (λ k. 2 ^ k) (sym sum) ∙ pow-add 2 (bits + 32 * digits) 64 ∙ ap (λ p. p * 2 ^ 64) (pow-add 2 bits (32 * digits)) in
    ap (λ t. t * 2 ^ (32 * digits) * 2 ^ 64) whole
    ∙ ap (λ t. t * 2 ^ 64) (mul_assoc h (2 ^ bits) (2 ^ (32 * digits)))
    ∙ mul_assoc h (2 ^ bits * 2 ^ (32 * digits)) (2 ^ 64)
    ∙ ap (λ p. h * p) (sym powers)

pub top_some : (h shift : ℕ) → 0 < h → h ≤ 2 ^ 63 → 0 < h * 2 ^ (shift % 32) % 2 ^ 128
top_some h shift some few =
    let bits = shift % 32 in
    let whole : h * 2 ^ bits % 2 ^ 128 ≡ h * 2 ^ bits = shl_whole h 64 bits 128 (omega arith) (omega arith) in
    omega (arith, whole, mul-pos some (pow_pos bits))

pub some_abs : (z : ℤ) → z ≢ pos 0 → 0 < nat_abs z
some_abs (pos zero) other = absurd (other refl)
some_abs (pos (suc n)) other = omega arith
some_abs (negsuc n) other = omega arith

-- the sign of a product
up_times : (h : ℤ) (p : ℕ) → pos 0 ≤ℤ h → pos 0 ≤ℤ (h *ℤ pos p)
up_times (pos n) p up = omega (arith, ints)
up_times (negsuc n) p up = absurd (omega (arith, ints))

down_times : (h : ℤ) (p : ℕ) → h <ℤ pos 0 → (h *ℤ pos p) ≤ℤ pos 0
down_times (pos n) p down = absurd (omega (arith, ints))
down_times (negsuc n) zero down = omega (arith, ints)
down_times (negsuc n) (suc p) down = omega (arith, ints)

sum_of_up : (z l : ℤ) → pos 0 ≤ℤ z → pos 0 ≤ℤ l → nat_abs (z +ℤ l) ≡ nat_abs z + nat_abs l
sum_of_up z l up up' = omega (arith, ints)

sum_of_down : (z l : ℤ) → z ≤ℤ pos 0 → l ≤ℤ pos 0 → nat_abs (z +ℤ l) ≡ nat_abs z + nat_abs l
sum_of_down z l down down' = omega (arith, ints)

less_of_up : (z l : ℤ) → pos 0 ≤ℤ z → l ≤ℤ pos 0 → nat_abs l ≤ nat_abs z → nat_abs (z +ℤ l) + nat_abs l ≡ nat_abs z
less_of_up z l up down less = omega (arith, ints)

less_of_down : (z l : ℤ) → z ≤ℤ pos 0 → pos 0 ≤ℤ l → nat_abs l ≤ nat_abs z → nat_abs (z +ℤ l) + nat_abs l ≡ nat_abs z
less_of_down z l down up less = omega (arith, ints)

sign_of : (z : ℤ) → (pos 0 ≤ℤ z) ⊎ (z <ℤ pos 0)
sign_of (pos n) = inl (omega (arith, ints))
sign_of (negsuc n) = inr (omega (arith, ints))

-- of one sign
pub sum_of_one : (h l : ℤ) (p : ℕ) → (pos 0 ≤ℤ h → pos 0 ≤ℤ l) → (h <ℤ pos 0 → l ≤ℤ pos 0) → nat_abs ((h *ℤ pos p) +ℤ l) ≡ nat_abs h * p + nat_abs l
sum_of_one h l p up down =
    let size = unsigned_abs-mul h (pos p) in
    elim (sign_of h) [
      | inl plus ↦ sum_of_up (h *ℤ pos p) l (up_times h p plus) (up plus) ∙ ap (λ n. n + nat_abs l) size
      | inr minus ↦ sum_of_down (h *ℤ pos p) l (down_times h p minus) (down minus) ∙ ap (λ n. n + nat_abs l) size
    ]

-- of two signs
pub sum_of_two : (h l : ℤ) (p : ℕ) → h ≢ pos 0 → nat_abs l ≤ p → (pos 0 ≤ℤ h → l <ℤ pos 0) → (h <ℤ pos 0 → pos 0 <ℤ l) → nat_abs ((h *ℤ pos p) +ℤ l) + nat_abs l ≡ nat_abs h * p
sum_of_two h l p some few down up =
    let size : nat_abs (h *ℤ pos p) ≡ nat_abs h * p = unsigned_abs-mul h (pos p) in
    let one : 1 * p ≤ nat_abs h * p = mul-le-mul_right p (some_abs h some) in
    let less : nat_abs l ≤ nat_abs (h *ℤ pos p) = omega (arith, size, one, few) in
    elim (sign_of h) [
      | inl plus ↦ less_of_up (h *ℤ pos p) l (up_times h p plus) (let d = down plus in omega (arith, ints, d)) less ∙ size
      | inr minus ↦ less_of_down (h *ℤ pos p) l (down_times h p minus) (let u = up minus in omega (arith, ints, u)) less ∙ size
    ]

-- the power counts more than any number of 64 bits
pub far_power : (shift : ℕ) → 64 ≤ shift → 2 ^ 64 ≤ 2 ^ shift
far_power shift far = pow-le-pow_right {n = 2} (omega arith) {i = 64} {j = shift} far
