-- How large scale factors are.
use Rattle.std.proofs.Common.{◌≡◌, ℕ, ◌+◌, ◌-◌, ◌^◌, ◌<◌, inl, inr, ℤ, pos, neg_ℤ, nat_abs, ap, ◌∙◌, arith}
use Rattle.std.proofs.lemmas.Bool.{cases_lt}
use Rattle.std.proofs.lemmas.Int.{ints}
use Rattle.grib_bits.specs.Bits.{bits_of, signed}
use Rattle.grib_bits.proofs.Signs.{signed-clear, signed-set}

small_along : (z w : ℤ) (k : ℕ) → z ≡ w → nat_abs w < k → nat_abs z < k
small_along z w k e small = rw e small

negated : (n k : ℕ) → n < k → nat_abs (neg_ℤ (pos n)) < k
negated n k small = omega (arith, ints)

pub small_factor : (n : ℕ) → n < 2 ^ 16 → nat_abs (signed (bits_of 16 n)) < 2 ^ 15
small_factor n small = elim (cases_lt n (2 ^ 15)) [
  | inl l ↦ small_along _ (pos n) (2 ^ 15) (signed-clear 15 n l) l
  | inr g ↦
      let m = n - 2 ^ 15 in
      let e : n ≡ 2 ^ 15 + m = omega arith in
      let less : m < 2 ^ 15 = omega arith in
      small_along _ (neg_ℤ (pos m)) (2 ^ 15) (ap (λ k. signed (bits_of 16 k)) e ∙ signed-set 15 m less) (negated m (2 ^ 15) less)
]
