-- Lemmas on numbers with a sign before their magnitude, and on their words of 64 bits.
use Rattle.std.proofs.Common.{◌≡◌, ℕ, suc, ◌+◌, ◌-◌, ◌*◌, ◌/◌, ◌%◌, ◌^◌, ◌<◌, ◌≤◌, Bool, true, false, eqb, List, [], ◌∷◌, length, ℤ, pos, negsuc, neg_ℤ, ◌-ℤ◌, nat_abs, refl, sym, ap, ◌∙◌, arith, mod-eq_of_lt, one-mul, w64, to_z, of_z, SFits, to_z-of_z, pow-suc, subst, pow_mono, ltb-true}
use Rattle.std.proofs.Math.Nat.{div-eq_of_lt}
use Rattle.std.proofs.lemmas.Int.{ints}
use Rattle.std.proofs.lemmas.Nat.{shr_high, mod_low, one_shl}
use lib.Signed.{lt_z}
use Rattle.grib_bits.specs.Bits.{bits_of, num, signed}
use Rattle.grib_bits.proofs.Numbers.{num-bits_of, num-lt}
use Rattle.grib_bits.proofs.Arithmetic.{nat_abs-neg}

-- a number that leaves the sign clear is its magnitude
pub signed-clear : (k n : ℕ) → n < 2 ^ k → signed (bits_of (suc k) n) ≡ pos n
signed-clear k n h =
    let sign : eqb (n / 2 ^ k % 2) 1 ≡ false = ap (λ (m : ℕ). eqb (m % 2) 1) (div-eq_of_lt h) in
    ap (λ (b : Bool). signed (b ∷ bits_of k n)) sign ∙ ap pos (num-bits_of k n ∙ mod-eq_of_lt h)

-- a set sign before a magnitude
pub signed-set : (k n : ℕ) → n < 2 ^ k → signed (bits_of (suc k) (2 ^ k + n)) ≡ neg_ℤ (pos n)
signed-set k n h =
    let whole : 2 ^ k + n ≡ 1 * 2 ^ k + n = ap (λ (m : ℕ). m + n) (sym (one-mul (2 ^ k))) in
    let high : (2 ^ k + n) / 2 ^ k ≡ 1 = ap (λ (m : ℕ). m / 2 ^ k) whole ∙ shr_high 1 k n h in
    let low : (2 ^ k + n) % 2 ^ k ≡ n = ap (λ (m : ℕ). m % 2 ^ k) whole ∙ mod_low 1 k n h in
    let sign : eqb ((2 ^ k + n) / 2 ^ k % 2) 1 ≡ true = ap (λ (m : ℕ). eqb (m % 2) 1) high in
    ap (λ (b : Bool). signed (b ∷ bits_of k (2 ^ k + n))) sign ∙ ap (λ (m : ℕ). neg_ℤ (pos m)) (num-bits_of k (2 ^ k + n) ∙ low)

module _ (width : ℕ) (some : 1 ≤ width) (word : width ≤ 64) where
  -- the sign bit, as `1 << (width - 1)` computes it
  sign_bit : 1 * 2 ^ (width - 1) % 2 ^ 64 ≡ 2 ^ (width - 1)
  sign_bit = one_shl (width - 1) 64 (omega arith)

  sign_first : suc (width - 1) ≡ width
  sign_first = omega arith

-- A second block, since these use the lemmas above.
module _ (width : ℕ) (some : 1 ≤ width) (word : width ≤ 64) where
  pub signed-below : (n : ℕ) → n < 1 * 2 ^ (width - 1) % 2 ^ 64 → signed (bits_of width n) ≡ pos n
  signed-below n h =
      let below : n < 2 ^ (width - 1) = subst (λ (m : ℕ). n < m) (sign_bit width some word) h in
      ap (λ (w : ℕ). signed (bits_of w n)) (sym (sign_first width some word)) ∙ signed-clear (width - 1) n below

  pub signed-above : (n : ℕ) → n < 1 * 2 ^ (width - 1) % 2 ^ 64 → signed (bits_of width (1 * 2 ^ (width - 1) % 2 ^ 64 + n)) ≡ neg_ℤ (pos n)
  signed-above n h =
      let below : n < 2 ^ (width - 1) = subst (λ (m : ℕ). n < m) (sign_bit width some word) h in
      ap (λ (s : ℕ). signed (bits_of width (s + n))) (sign_bit width some word)
      ∙ ap (λ (w : ℕ). signed (bits_of w (2 ^ (width - 1) + n))) (sym (sign_first width some word)) ∙ signed-set (width - 1) n below

  -- a sign bit is at most that of 64 bits
  pub sign_within : 1 * 2 ^ (width - 1) % 2 ^ 64 ≤ 2 ^ 63
  sign_within =
      let below : width - 1 ≤ 63 = omega arith in
      let power : 2 ^ (width - 1) ≤ 2 ^ 63 = pow_mono below in
      omega (arith, sign_bit width some word)

  -- the sign bit is half of the numbers of the width
  pub sign_twice : 1 * 2 ^ (width - 1) % 2 ^ 64 + 1 * 2 ^ (width - 1) % 2 ^ 64 ≡ 2 ^ width
  sign_twice =
      let power : 2 ^ width ≡ 2 ^ (width - 1) * 2 = ap (λ (w : ℕ). 2 ^ w) (sym (sign_first width some word)) ∙ pow-suc 2 (width - 1) in
      omega (arith, sign_bit width some word, power)

-- `n as i64`
pub kept : (n : ℕ) → n < 2 ^ 63 → to_z w64 n ≡ pos n
kept n h = omega (arith, ints)

-- `-(n as i64)`
pub negated : (n : ℕ) → n < 2 ^ 63 → to_z w64 (of_z w64 (pos 0 -ℤ to_z w64 n)) ≡ neg_ℤ (pos n)
negated n h = omega (arith, ints)

-- a negative number is its magnitude negated
negative : (z : ℤ) → lt_z z (pos 0) ≡ true → neg_ℤ (pos (nat_abs z)) ≡ z
negative (pos n) h = absurd (omega (arith, ltb-true n 0 h))
negative (negsuc n) h = refl

natural : (z : ℤ) → lt_z z (pos 0) ≡ false → pos (nat_abs z) ≡ z
natural (pos n) h = refl
natural (negsuc n) h = cc

pub negative_word : (z : ℤ) (n : ℕ) → SFits w64 z → n ≡ nat_abs (to_z w64 (of_z w64 z)) → lt_z (to_z w64 (of_z w64 z)) (pos 0) ≡ true → neg_ℤ (pos n) ≡ z
negative_word z n fits is below =
    let same = to_z-of_z fits in
    ap (λ (m : ℕ). neg_ℤ (pos m)) is ∙ negative _ below ∙ same

pub natural_word : (z : ℤ) (n : ℕ) → SFits w64 z → n ≡ nat_abs (to_z w64 (of_z w64 z)) → lt_z (to_z w64 (of_z w64 z)) (pos 0) ≡ false → pos n ≡ z
natural_word z n fits is above =
    let same = to_z-of_z fits in
    ap pos is ∙ natural _ above ∙ same

-- the magnitude of a number of 32 bits with sign is below 2 ^ 31
pub signed-small : (bs : List Bool) → length bs ≡ 32 → nat_abs (signed bs) < 2 ^ 31
signed-small [] long = absurd (omega (arith, long))
signed-small (false ∷ bs) long =
    let size : length bs ≡ 31 = omega (arith, long) in
    subst (λ (k : ℕ). num bs < 2 ^ k) size (num-lt bs)
signed-small (true ∷ bs) long =
    let size : length bs ≡ 31 = omega (arith, long) in
    omega (arith, subst (λ (k : ℕ). num bs < 2 ^ k) size (num-lt bs), nat_abs-neg (num bs))
