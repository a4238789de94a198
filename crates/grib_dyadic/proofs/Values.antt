-- When two values of points are the same, and that the value of a point depends on the reference value's number alone.
use Rattle.std.proofs.Common.{◌≡◌, ℕ, ◌+◌, ◌*◌, ◌^◌, ◌<◌, ℤ, pos, neg_ℤ, ◌+ℤ◌, ◌*ℤ◌, ◌-ℤ◌, ◌≤ℤ◌, nat_abs, refl, sym, ap, ◌∙◌, arith}
use Rattle.std.proofs.Math.Nat.{mul-mul-mul_comm, mul-pos, one-le-pow}
use Rattle.std.proofs.lemmas.Nat.{pow-add, pow_pos}
use Rattle.std.proofs.lemmas.Int.{ints, clamps}
use Rattle.std.specs.Int.{int_min, int_max}
use Rattle.grib_dyadic.specs.Reference.{Binary, two_to_difference, SameNumber}
use Rattle.grib_dyadic.specs.Value.{Exact, value_of, scaled_up, Same}
use Rattle.grib_dyadic.proofs.Numbers.{scaled, scaled_lower, SameNumber-scaled, times_twice, times_sum, times_cancel}

-- s and z are so great that v times 2 ^ s * 10 ^ z is whole
pub record IsLarge (v : Exact) (s z : ℤ) : Type 0 where
  pub twos : neg_ℤ v.binary ≤ℤ s
  pub tens : v.decimal ≤ℤ z

-- the power of ten is not 0
ten_pos : (k : ℕ) → 0 < 10 ^ k
ten_pos k = one-le-pow k 10 (omega arith)

scaled_up-times : (v : Exact) (s z : ℤ) → scaled_up v s z ≡ v.number *ℤ pos (2 ^ nat_abs (v.binary +ℤ s) * 10 ^ nat_abs (z -ℤ v.decimal))
scaled_up-times v s z = sym (times_twice v.number (2 ^ nat_abs (v.binary +ℤ s)) (10 ^ nat_abs (z -ℤ v.decimal)))

-- at a greater s and z, the whole number is this many times greater
scaled_up-more : (v : Exact) (s z s' z' : ℤ) → IsLarge v s z → s ≤ℤ s' → z ≤ℤ z' → scaled_up v s' z' ≡ scaled_up v s z *ℤ pos (2 ^ nat_abs (s' -ℤ s) * 10 ^ nat_abs (z' -ℤ z))
scaled_up-more v s z s' z' large more_twos more_tens =
    let two = large.twos in
    let ten = large.tens in
    let e : nat_abs (v.binary +ℤ s') ≡ nat_abs (v.binary +ℤ s) + nat_abs (s' -ℤ s) = omega (arith, ints) in
    let f : nat_abs (z' -ℤ v.decimal) ≡ nat_abs (z -ℤ v.decimal) + nat_abs (z' -ℤ z) = omega (arith, ints) in
    let a = 2 ^ nat_abs (v.binary +ℤ s) in
    let b = 10 ^ nat_abs (z -ℤ v.decimal) in
    let c = 2 ^ nat_abs (s' -ℤ s) in
    let d = 10 ^ nat_abs (z' -ℤ z) in
    let twos : 2 ^ nat_abs (v.binary +ℤ s') ≡ a * c = ap (λ n. 2 ^ n) e ∙ pow-add 2 (nat_abs (v.binary +ℤ s)) (nat_abs (s' -ℤ s)) in
    let tens : 10 ^ nat_abs (z' -ℤ v.decimal) ≡ b * d = ap (λ n. 10 ^ n) f ∙ pow-add 10 (nat_abs (z -ℤ v.decimal)) (nat_abs (z' -ℤ z)) in
    scaled_up-times v s' z' ∙ ap (λ n. v.number *ℤ pos (n * 10 ^ nat_abs (z' -ℤ v.decimal))) twos ∙ ap (λ n. v.number *ℤ pos (a * c * n)) tens ∙ ap (λ n. v.number *ℤ pos n) (mul-mul-mul_comm a c b d) ∙ times_twice v.number (a * b) (c * d) ∙ ap (λ x. x *ℤ pos (c * d)) (sym (scaled_up-times v s z))

-- the s and z of `Same`
abbrev twos_of : Exact → Exact → ℤ
twos_of v w = int_max (pos 0) (int_max (neg_ℤ v.binary) (neg_ℤ w.binary))

abbrev tens_of : Exact → Exact → ℤ
tens_of v w = int_max (pos 0) (int_max v.decimal w.decimal)

large_left : (v w : Exact) → IsLarge v (twos_of v w) (tens_of v w)
large_left v w = record { twos = omega (arith, ints, clamps); tens = omega (arith, ints, clamps) }

large_right : (v w : Exact) → IsLarge w (twos_of v w) (tens_of v w)
large_right v w = record { twos = omega (arith, ints, clamps); tens = omega (arith, ints, clamps) }

max_three : (a b t : ℤ) → pos 0 ≤ℤ t → a ≤ℤ t → b ≤ℤ t → int_max (pos 0) (int_max a b) ≤ℤ t
max_three a b t p q r = omega (arith, ints, clamps)

-- any s and z that are great enough tell whether two values are the same
pub Same-scaled_up : (v w : Exact) (s z : ℤ) → pos 0 ≤ℤ s → pos 0 ≤ℤ z → IsLarge v s z → IsLarge w s z → Same v w → scaled_up v s z ≡ scaled_up w s z
Same-scaled_up v w s z p q left right same =
    let a = twos_of v w in
    let b = tens_of v w in
    let more = max_three (neg_ℤ v.binary) (neg_ℤ w.binary) s p left.twos right.twos in
    let more' = max_three v.decimal w.decimal z q left.tens right.tens in
    scaled_up-more v a b s z (large_left v w) more more' ∙ ap (λ x. x *ℤ pos (2 ^ nat_abs (s -ℤ a) * 10 ^ nat_abs (z -ℤ b))) same ∙ sym (scaled_up-more w a b s z (large_right v w) more more')

pub Same-from_scaled_up : (v w : Exact) (s z : ℤ) → pos 0 ≤ℤ s → pos 0 ≤ℤ z → IsLarge v s z → IsLarge w s z → scaled_up v s z ≡ scaled_up w s z → Same v w
Same-from_scaled_up v w s z p q left right e =
    let a = twos_of v w in
    let b = tens_of v w in
    let more = max_three (neg_ℤ v.binary) (neg_ℤ w.binary) s p left.twos right.twos in
    let more' = max_three v.decimal w.decimal z q left.tens right.tens in
    times_cancel (scaled_up v a b) (scaled_up w a b) (2 ^ nat_abs (s -ℤ a) * 10 ^ nat_abs (z -ℤ b)) (mul-pos (pow_pos (nat_abs (s -ℤ a))) (ten_pos (nat_abs (z -ℤ b)))) (sym (scaled_up-more v a b s z (large_left v w) more more') ∙ e ∙ scaled_up-more w a b s z (large_right v w) more more')

pub Same_sym : (v w : Exact) → Same v w → Same w v
Same_sym v w same =
    Same-from_scaled_up w v (twos_of v w) (tens_of v w) (omega (arith, ints, clamps)) (omega (arith, ints, clamps)) (large_right v w) (large_left v w) (sym same)

pub Same_trans : (u v w : Exact) → Same u v → Same v w → Same u w
Same_trans u v w p q =
    let s = int_max (twos_of u v) (neg_ℤ w.binary) in
    let z = int_max (tens_of u v) w.decimal in
    let s_pos : pos 0 ≤ℤ s = omega (arith, ints, clamps) in
    let z_pos : pos 0 ≤ℤ z = omega (arith, ints, clamps) in
    let large_u : IsLarge u s z = record { twos = omega (arith, ints, clamps); tens = omega (arith, ints, clamps) } in
    let large_v : IsLarge v s z = record { twos = omega (arith, ints, clamps); tens = omega (arith, ints, clamps) } in
    let large_w : IsLarge w s z = record { twos = omega (arith, ints, clamps); tens = omega (arith, ints, clamps) } in
    Same-from_scaled_up u w s z s_pos z_pos large_u large_w (Same-scaled_up u v s z s_pos z_pos large_u large_v p ∙ Same-scaled_up v w s z s_pos z_pos large_v large_w q)

-- Two values with one decimal scale are the same if, at a lower power of two, they are one number.
lowered : (v : Exact) (u s z : ℤ) → u ≤ℤ v.binary → neg_ℤ u ≤ℤ s → scaled_up v s z ≡ (v.number *ℤ pos (two_to_difference v.binary u)) *ℤ pos (2 ^ nat_abs (u +ℤ s)) *ℤ pos (10 ^ nat_abs (z -ℤ v.decimal))
lowered v u s z low large =
    let e : nat_abs (v.binary +ℤ s) ≡ nat_abs (v.binary -ℤ u) + nat_abs (u +ℤ s) = omega (arith, ints) in
    let twos : 2 ^ nat_abs (v.binary +ℤ s) ≡ two_to_difference v.binary u * 2 ^ nat_abs (u +ℤ s) = ap (λ n. 2 ^ n) e ∙ pow-add 2 (nat_abs (v.binary -ℤ u)) (nat_abs (u +ℤ s)) in
    ap (λ x. x *ℤ pos (10 ^ nat_abs (z -ℤ v.decimal))) (ap (λ n. v.number *ℤ pos n) twos ∙ times_twice v.number (two_to_difference v.binary u) (2 ^ nat_abs (u +ℤ s)))

pub Same-from_lower : (v w : Exact) (u : ℤ) → u ≤ℤ v.binary → u ≤ℤ w.binary → v.decimal ≡ w.decimal → v.number *ℤ pos (two_to_difference v.binary u) ≡ w.number *ℤ pos (two_to_difference w.binary u) → Same v w
Same-from_lower v w u low low' tens e =
    let s = int_max (twos_of v w) (neg_ℤ u) in
    let z = tens_of v w in
    let s_pos : pos 0 ≤ℤ s = omega (arith, ints, clamps) in
    let z_pos : pos 0 ≤ℤ z = omega (arith, ints, clamps) in
    let large : neg_ℤ u ≤ℤ s = omega (arith, ints, clamps) in
    let large_v : IsLarge v s z = record { twos = omega (arith, ints, clamps); tens = omega (arith, ints, clamps) } in
    let large_w : IsLarge w s z = record { twos = omega (arith, ints, clamps); tens = omega (arith, ints, clamps) } in
    Same-from_scaled_up v w s z s_pos z_pos large_v large_w (lowered v u s z low large ∙ ap (λ x. x *ℤ pos (2 ^ nat_abs (u +ℤ s)) *ℤ pos (10 ^ nat_abs (z -ℤ v.decimal))) e ∙ ap (λ d. w.number *ℤ pos (two_to_difference w.binary u) *ℤ pos (2 ^ nat_abs (u +ℤ s)) *ℤ pos (10 ^ nat_abs (z -ℤ d))) tens ∙ sym (lowered w u s z low' large))

-- the number of `value_of` at a lower power of two
value_of-lower : (r : Binary) (e d x u : ℤ) → u ≤ℤ int_min r.exponent e → (value_of r e d x).number *ℤ pos (two_to_difference (int_min r.exponent e) u) ≡ scaled r u +ℤ (x *ℤ pos (two_to_difference e u))
value_of-lower r e d x u low =
    let t = int_min r.exponent e in
    let left : t ≤ℤ r.exponent = omega (arith, ints, clamps) in
    let right : t ≤ℤ e = omega (arith, ints, clamps) in
    let step : Binary = record { mantissa = x; exponent = e } in
    times_sum (scaled r t) (x *ℤ pos (two_to_difference e t)) (two_to_difference t u) ∙ ap (λ n. n +ℤ (x *ℤ pos (two_to_difference e t) *ℤ pos (two_to_difference t u))) (sym (scaled_lower r t u low left)) ∙ ap (λ n. scaled r u +ℤ n) (sym (scaled_lower step t u low right))

-- reference values that are one number give one value
pub value_of-same : (r s : Binary) (e d x : ℤ) → SameNumber r s → Same (value_of r e d x) (value_of s e d x)
value_of-same r s e d x same =
    let u = int_min (int_min r.exponent e) (int_min s.exponent e) in
    let low : u ≤ℤ int_min r.exponent e = omega (arith, ints, clamps) in
    let low' : u ≤ℤ int_min s.exponent e = omega (arith, ints, clamps) in
    let at_r : u ≤ℤ r.exponent = omega (arith, ints, clamps) in
    let at_s : u ≤ℤ s.exponent = omega (arith, ints, clamps) in
    Same-from_lower (value_of r e d x) (value_of s e d x) u low low' refl (value_of-lower r e d x u low ∙ ap (λ n. n +ℤ (x *ℤ pos (two_to_difference e u))) (SameNumber-scaled r s u at_r at_s same) ∙ sym (value_of-lower s e d x u low'))
