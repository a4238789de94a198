-- What a reference value is, exactly (WMO-No. 306, Volume I.2, FM 92 GRIB). Edition 2 writes it in IEEE
-- 754 binary32 (Section 5, octets 12-15), edition 1 in the IBM single form (Section 4, octets 7-10).
use Rattle.std.specs.Prelude.{◌≡◌, ℕ, zero, suc, ◌+◌, ◌*◌, ◌/◌, ◌%◌, ◌^◌, ◌<◌, ◌⊎◌, ◌==◌, cond, ℤ, pos, neg_ℤ, ◌+ℤ◌, ◌-ℤ◌, ◌*ℤ◌, ◌≤ℤ◌, nat_abs}
use Rattle.std.specs.Int.{int_min, is_negative}
use Rattle.grib_bits.specs.Binary32.{ieee_sign, ieee_exponent, ieee_fraction}
use Rattle.grib_dyadic.specs.Sign.{signed}

-- stands for mantissa * 2 ^ exponent
pub record Binary : Type 0 where
  pub mantissa : ℤ
  pub exponent : ℤ

abbrev pub binary : ℤ → ℤ → Binary
binary m k = record { mantissa = m; exponent = k }

-- a magnitude with the sign that a sign bit of 0 or 1 gives it
abbrev pub with_sign : ℕ → ℕ → ℤ
with_sign sign magnitude = signed (sign == 1) magnitude

-- the exponent field is not that of infinities and of what is no number
abbrev pub IsFinite : ℕ → Type 0
IsFinite word = ieee_exponent word < 255

-- what a finite binary32 word stands for: fraction * 2 ^ -149 where the exponent field is 0, else
-- (2 ^ 23 + fraction) * 2 ^ (exponent field - 150)
abbrev pub ieee : ℕ → Binary
ieee word =
    let subnormal = binary (with_sign (ieee_sign word) (ieee_fraction word)) (neg_ℤ (pos 149)) in
    let normal = binary (with_sign (ieee_sign word) (2 ^ 23 + ieee_fraction word)) (pos (ieee_exponent word) -ℤ pos 150) in
    cond (ieee_exponent word == 0) subnormal normal

-- The fields of an IBM word: 1 bit of sign, 7 of A, 24 of B.
abbrev pub ibm_a : ℕ → ℕ
ibm_a word = word / 2 ^ 24 % 128

abbrev pub ibm_b : ℕ → ℕ
ibm_b word = word % 2 ^ 24

-- what an IBM word stands for: B * 2 ^ (4 A - 280)
abbrev pub ibm : ℕ → Binary
ibm word = binary (with_sign (word / 2 ^ 31) (ibm_b word)) (pos (4 * ibm_a word) -ℤ pos 280)

-- 2 to the power of the difference, where the second exponent is the lesser
abbrev pub two_to_difference : ℤ → ℤ → ℕ
two_to_difference k t = 2 ^ nat_abs (k -ℤ t)

-- both stand for the same number
abbrev pub SameNumber : Binary → Binary → Type 0
SameNumber a b =
    let t = int_min a.exponent b.exponent in
    (a.mantissa *ℤ pos (two_to_difference a.exponent t)) ≡ (b.mantissa *ℤ pos (two_to_difference b.exponent t))

-- The form that each number has once: an odd mantissa, or 0 * 2 ^ 0.
abbrev pub IsReduced : Binary → Type 0
IsReduced v = (nat_abs v.mantissa % 2 ≡ 1) ⊎ ((v.mantissa ≡ pos 0) × (v.exponent ≡ pos 0))

-- how often a number can be halved, up to `most` times
abbrev pub halvings : ℕ → ℕ → ℕ
halvings zero n = 0
halvings (suc most) n = cond (n % 2 == 1) 0 (halvings most (n / 2) + 1)

-- the same number in that form, where the mantissa has at most 64 bits
abbrev pub reduced : Binary → Binary
reduced v =
    let magnitude = nat_abs v.mantissa in
    let k = halvings 64 magnitude in
    cond (magnitude == 0) (binary (pos 0) (pos 0)) (binary (signed (is_negative v.mantissa) (magnitude / 2 ^ k)) (v.exponent +ℤ pos k))

-- A reduced number other than 0 has a binary32 word: its mantissa is below 2 ^ 24, it is a multiple
-- of 2 ^ -149 and below 2 ^ 128. Zero has one.
pub record HasIeee (v : Binary) : Type 0 where
  pub digits : nat_abs v.mantissa < 2 ^ 24
  pub multiple : neg_ℤ (pos 149) ≤ℤ v.exponent
  pub within : (n : ℕ) × (nat_abs v.mantissa < 2 ^ n) × ((pos n +ℤ v.exponent) ≤ℤ pos 128)

-- A number has an IBM word with this A: it is a multiple of 2 ^ (4 A - 280), by less than 2 ^ 24.
pub record HasIbmAt (a : ℕ) (v : Binary) : Type 0 where
  pub multiple : (pos (4 * a) -ℤ pos 280) ≤ℤ v.exponent
  pub within : nat_abs v.mantissa * two_to_difference v.exponent (pos (4 * a) -ℤ pos 280) < 2 ^ 24

-- A reduced number has an IBM word: it has one with some A. Zero has one.
abbrev pub HasIbm : Binary → Type 0
HasIbm v = (v.mantissa ≡ pos 0) ⊎ ((a : ℕ) × (a < 128) × HasIbmAt a v)
