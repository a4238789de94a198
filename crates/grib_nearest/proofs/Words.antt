-- The words of values.
use Rattle.std.proofs.Common.{◌≡◌, ℕ, suc, ◌+◌, ◌*◌, ◌^◌, ◌<◌, ◌≤◌, Bool, true, false, ℤ, pos, negsuc, neg_ℤ, ◌*ℤ◌, nat_abs, sym, ap, ◌∙◌, arith}
use Rattle.std.proofs.Math.Nat.{mul-le-mul_right, mul-pos, one-le-pow, mul_assoc, mul_comm}
use Rattle.std.proofs.lemmas.Nat.{pow_pos}
use Rattle.std.proofs.lemmas.Int.{ints, unsigned_abs-mul}
use Rattle.std.specs.Int.{is_negative}
use lib.Ieee.{Format}
use Rattle.grib_decimal.specs.Decimal.{or_0}
use Rattle.grib_nearest.specs.Nearest.{nearest_word}
use Rattle.grib_nearest.specs.Fractions.{numerator_at, denominator_at}
use Rattle.grib_nearest.specs.Values.{signed_word}
use Rattle.grib_nearest.specs.Numbers.{word_of}
use Rattle.grib_nearest.proofs.Numbers.{negative_is, not_negative_is, zero_is}

-- a product with a number above 0 has the sign of the other
times_sign : (n : ℤ) (p : ℕ) → 0 < p → is_negative (n *ℤ pos p) ≡ is_negative n
times_sign (pos n) p some = not_negative_is (pos (n * p)) (omega (arith, ints)) ∙ sym (not_negative_is (pos n) (omega (arith, ints)))
times_sign (negsuc n) p some =
    let one : 1 * p ≤ suc n * p = mul-le-mul_right p (omega arith) in
    negative_is (neg_ℤ (pos (suc n * p))) (omega (arith, ints, one, some))

pub turned : (n twos tens : ℕ) → n * tens * twos ≡ n * (twos * tens)
turned n twos tens = mul_assoc n tens twos ∙ ap (λ k. n * k) (mul_comm tens twos)

-- the word of a number that was multiplied
pub narrow_word : (f : Format) (n raised e : ℤ) (up down d : ℕ) → raised ≡ n *ℤ pos (10 ^ up) → d ≡ 10 ^ down
    → signed_word f (is_negative raised) (nearest_word f (numerator_at e (nat_abs raised)) (denominator_at e d)) ≡ word_of f n e up down
narrow_word f n raised e up down d is d_is =
    let sign : is_negative raised ≡ is_negative n = ap is_negative is ∙ times_sign n (10 ^ up) (one-le-pow up 10 (omega arith)) in
    let size : nat_abs raised ≡ nat_abs n * 10 ^ up = ap nat_abs is ∙ unsigned_abs-mul n (pos (10 ^ up)) in
    let top : numerator_at e (nat_abs raised) ≡ nat_abs n * (2 ^ or_0 e * 10 ^ up) = ap (λ k. k * 2 ^ or_0 e) size ∙ turned (nat_abs n) (2 ^ or_0 e) (10 ^ up) in
    let bottom : denominator_at e d ≡ 2 ^ or_0 (neg_ℤ e) * 10 ^ down = ap (λ k. k * 2 ^ or_0 (neg_ℤ e)) d_is ∙ mul_comm (10 ^ down) (2 ^ or_0 (neg_ℤ e)) in
    ap (λ b. signed_word f b (nearest_word f (numerator_at e (nat_abs raised)) (denominator_at e d))) sign
    ∙ ap (λ k. signed_word f (is_negative n) (nearest_word f k (denominator_at e d))) top
    ∙ ap (λ k. signed_word f (is_negative n) (nearest_word f (nat_abs n * (2 ^ or_0 e * 10 ^ up)) k)) bottom

pub below_some : (e : ℤ) (down : ℕ) → 0 < 2 ^ or_0 (neg_ℤ e) * 10 ^ down
below_some e down = mul-pos (pow_pos (or_0 (neg_ℤ e))) (one-le-pow down 10 (omega arith))

pub zero_word : (f : Format) (n e : ℤ) (up down : ℕ) → n ≡ pos 0 → 0 ≡ word_of f n e up down
zero_word f n e up down none =
    let top : nat_abs n * (2 ^ or_0 e * 10 ^ up) ≡ 0 = ap (λ k. nat_abs k * (2 ^ or_0 e * 10 ^ up)) none ∙ omega arith in
    let sign : is_negative n ≡ false = ap is_negative none in
    zero_is f (nat_abs n * (2 ^ or_0 e * 10 ^ up)) (2 ^ or_0 (neg_ℤ e) * 10 ^ down) top (below_some e down)
    ∙ omega arith
    ∙ ap (λ b. signed_word f b (nearest_word f (nat_abs n * (2 ^ or_0 e * 10 ^ up)) (2 ^ or_0 (neg_ℤ e) * 10 ^ down))) (sym sign)

pub minus_word : (f : Format) (b : Bool) (word : ℕ) → b ≡ true → word + signed_word f true 0 ≡ signed_word f b word
minus_word f b word is = let sign : word + signed_word f true 0 ≡ signed_word f true word = omega arith in sign ∙ ap (λ b. signed_word f b word) (sym is)

pub plus_word : (f : Format) (b : Bool) (word : ℕ) → b ≡ false → word ≡ signed_word f b word
plus_word f b word is = let sign : word ≡ signed_word f false word = omega arith in sign ∙ ap (λ b. signed_word f b word) (sym is)
