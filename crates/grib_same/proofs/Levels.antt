-- Values as whole numbers in common units.
use Rattle.std.proofs.Common.{◌≡◌, ℕ, ◌+◌, ◌*◌, ◌^◌, ◌<◌, ◌↔◌, ℤ, pos, neg_ℤ, ◌+ℤ◌, ◌*ℤ◌, ◌-ℤ◌, ◌≤ℤ◌, nat_abs, sym, ap, subst, ◌∙◌, arith}
use Rattle.std.proofs.Math.Nat.{mul-pos, one-le-pow}
use Rattle.std.proofs.lemmas.Nat.{pow-add, pow_pos}
use Rattle.std.proofs.lemmas.Int.{ints, clamps}
use Rattle.std.specs.Int.{int_min, int_max}
use Rattle.grib_dyadic.specs.Reference.{Binary, binary, two_to_difference, SameNumber}
use Rattle.grib_dyadic.specs.Value.{Exact, value_of, scaled_up, Same}
use Rattle.grib_dyadic.proofs.Numbers.{scaled, scaled_lower, times_twice, times_sum, times_cancel}
use Rattle.grib_dyadic.proofs.Values.{IsLarge, Same-scaled_up, Same-from_scaled_up, Same_sym, Same_trans, value_of-same}
use Rattle.grib_same.specs.declared.side.Side.{Side}
use Rattle.grib_same.specs.declared.side.Level.{Level}
use Rattle.grib_same.specs.Levels.{IsBelow, whole_at}

-- a value in units of 2 ^ t, without its powers of ten
abbrev sum_at : Binary → ℤ → ℤ → ℤ → ℤ
sum_at r e x t = scaled r t +ℤ (x *ℤ pos (two_to_difference e t))

-- a value in units of 2 ^ t / 10 ^ z
abbrev whole : Binary → ℤ → ℤ → ℤ → ℤ → ℤ → ℤ
whole r e d x t z = sum_at r e x t *ℤ pos (10 ^ nat_abs (z -ℤ d))

sum_lower : (r : Binary) (e d x t : ℤ) → t ≤ℤ int_min r.exponent e → (value_of r e d x).number *ℤ pos (two_to_difference (int_min r.exponent e) t) ≡ sum_at r e x t
sum_lower r e d x t low =
    let u = int_min r.exponent e in
    let left : u ≤ℤ r.exponent = omega (arith, ints, clamps) in
    let right : u ≤ℤ e = omega (arith, ints, clamps) in
    let step : Binary = record { mantissa = x; exponent = e } in
    times_sum (scaled r u) (x *ℤ pos (two_to_difference e u)) (two_to_difference u t)
    ∙ ap (λ n. n +ℤ (x *ℤ pos (two_to_difference e u) *ℤ pos (two_to_difference u t))) (sym (scaled_lower r u t low left))
    ∙ ap (λ n. scaled r t +ℤ n) (sym (scaled_lower step u t low right))

regrouped : (b c d : ℕ) → b * (c * d) ≡ c * (b * d)
regrouped b c d = omega arith

-- what a value times 2 ^ s * 10 ^ y is in those units
whole_scaled : (r : Binary) (e d x t z s y : ℤ) → t ≤ℤ r.exponent → t ≤ℤ e → d ≤ℤ z → neg_ℤ t ≤ℤ s → z ≤ℤ y → scaled_up (value_of r e d x) s y ≡ whole r e d x t z *ℤ pos (2 ^ nat_abs (t +ℤ s) * 10 ^ nat_abs (y -ℤ z))
whole_scaled r e d x t z s y low low' tens large more =
    let u = int_min r.exponent e in
    let n = (value_of r e d x).number in
    let under : t ≤ℤ u = omega (arith, ints, clamps) in
    let twos : nat_abs (u +ℤ s) ≡ nat_abs (u -ℤ t) + nat_abs (t +ℤ s) = omega (arith, ints, under, large) in
    let all : nat_abs (y -ℤ d) ≡ nat_abs (z -ℤ d) + nat_abs (y -ℤ z) = omega (arith, ints, tens, more) in
    let a = two_to_difference u t in
    let b = 2 ^ nat_abs (t +ℤ s) in
    let c = 10 ^ nat_abs (z -ℤ d) in
    let f = 10 ^ nat_abs (y -ℤ z) in
    let twos_is : 2 ^ nat_abs (u +ℤ s) ≡ a * b = ap (λ k. 2 ^ k) twos ∙ pow-add 2 (nat_abs (u -ℤ t)) (nat_abs (t +ℤ s)) in
    let tens_is : 10 ^ nat_abs (y -ℤ d) ≡ c * f = ap (λ k. 10 ^ k) all ∙ pow-add 10 (nat_abs (z -ℤ d)) (nat_abs (y -ℤ z)) in
    let sum = sum_at r e x t in
    ap (λ k. n *ℤ pos k *ℤ pos (10 ^ nat_abs (y -ℤ d))) twos_is
    ∙ ap (λ k. n *ℤ pos (a * b) *ℤ pos k) tens_is
    ∙ ap (λ k. k *ℤ pos (c * f)) (times_twice n a b ∙ ap (λ k. k *ℤ pos b) (sum_lower r e d x t under))
    ∙ sym (times_twice sum b (c * f))
    ∙ ap (λ k. sum *ℤ pos k) (regrouped b c f)
    ∙ times_twice sum c (b * f)

-- two values are the same exactly where they are one number in common units
module _ (r : Binary) (e d x : ℤ) (q : Binary) (e' d' y t z : ℤ) (low : t ≤ℤ r.exponent) (step : t ≤ℤ e) (tens : d ≤ℤ z) (low' : t ≤ℤ q.exponent) (step' : t ≤ℤ e') (tens' : d' ≤ℤ z) where
  abbrev twos_up : ℤ
  twos_up = int_max (pos 0) (neg_ℤ t)

  abbrev tens_up : ℤ
  tens_up = int_max (pos 0) z

  abbrev factor : ℕ
  factor = 2 ^ nat_abs (t +ℤ twos_up) * 10 ^ nat_abs (tens_up -ℤ z)

  large : IsLarge (value_of r e d x) twos_up tens_up
  large = record { twos = omega (arith, ints, clamps, low, step); tens = omega (arith, ints, clamps, tens) }

  large' : IsLarge (value_of q e' d' y) twos_up tens_up
  large' = record { twos = omega (arith, ints, clamps, low', step'); tens = omega (arith, ints, clamps, tens') }

  scaled_left : scaled_up (value_of r e d x) twos_up tens_up ≡ whole r e d x t z *ℤ pos factor
  scaled_left = whole_scaled r e d x t z twos_up tens_up low step tens (omega (arith, ints, clamps)) (omega (arith, ints, clamps))

  scaled_right : scaled_up (value_of q e' d' y) twos_up tens_up ≡ whole q e' d' y t z *ℤ pos factor
  scaled_right = whole_scaled q e' d' y t z twos_up tens_up low' step' tens' (omega (arith, ints, clamps)) (omega (arith, ints, clamps))

  factor_pos : 0 < factor
  factor_pos = mul-pos (pow_pos (nat_abs (t +ℤ twos_up))) (one-le-pow (nat_abs (tens_up -ℤ z)) 10 (omega arith))

  same_whole : Same (value_of r e d x) (value_of q e' d' y) → whole r e d x t z ≡ whole q e' d' y t z
  same_whole same =
      let both = Same-scaled_up (value_of r e d x) (value_of q e' d' y) twos_up tens_up (omega (arith, ints, clamps)) (omega (arith, ints, clamps)) large large' same in
      times_cancel (whole r e d x t z) (whole q e' d' y t z) factor factor_pos (sym scaled_left ∙ both ∙ scaled_right)

  whole_same : whole r e d x t z ≡ whole q e' d' y t z → Same (value_of r e d x) (value_of q e' d' y)
  whole_same both =
      Same-from_scaled_up (value_of r e d x) (value_of q e' d' y) twos_up tens_up (omega (arith, ints, clamps)) (omega (arith, ints, clamps)) large large' (scaled_left ∙ ap (λ n. n *ℤ pos factor) both ∙ sym scaled_right)

  pub same_in_units : (whole r e d x t z ≡ whole q e' d' y t z) ↔ Same (value_of r e d x) (value_of q e' d' y)
  same_in_units = (whole_same, same_whole)

abbrev pub reference_of : Side → Binary
reference_of side = binary side.mantissa side.exponent

abbrev pub side_value : Side → ℤ → Exact
side_value side x = value_of (reference_of side) side.e side.d x

-- the numbers of a side give the value
pub side_same : (r : Binary) (e d x : ℤ) (side : Side) → SameNumber r (reference_of side) → side.e ≡ e → side.d ≡ d → Same (value_of r e d x) (side_value side x)
side_same r e d x side same e_is d_is =
    subst (λ (k : ℤ). Same (value_of r e d x) (value_of (reference_of side) k side.d x)) (sym e_is)
    (subst (λ (k : ℤ). Same (value_of r e d x) (value_of (reference_of side) e k x)) (sym d_is) (value_of-same r (reference_of side) e d x same))

-- what is said of the values of two sides holds of the values of their fields
pub sides_decide : (P : Type 0) (v w v' w' : Exact) → Same v v' → Same w w' → P ↔ Same v' w' → P ↔ Same v w
sides_decide P v w v' w' left right both = (
  λ p. Same_trans v v' w left (Same_trans v' w' w (both.0 p) (Same_sym w w' right)),
  λ s. both.1 (Same_trans v' v w' (Same_sym v v' left) (Same_trans v w w' s right)),
)

pub sides_in_units : (left right : Side) (level : Level) (x y : ℤ) → IsBelow level left → IsBelow level right → (whole_at left level x ≡ whole_at right level y) ↔ Same (side_value left x) (side_value right y)
sides_in_units left right level x y is is' =
    same_in_units (reference_of left) left.e left.d x (reference_of right) right.e right.d y level.binary level.decimal is.reference is.step is.tens is'.reference is'.step is'.tens

-- where all numbers of the two fields are the same, the scaled numbers tell
sum_cancel : (m x y : ℤ) (a c : ℕ) → 0 < a → 0 < c → (m +ℤ (x *ℤ pos a)) *ℤ pos c ≡ (m +ℤ (y *ℤ pos a)) *ℤ pos c → x ≡ y
sum_cancel m x y a c some some' e =
    let f = times_cancel (m +ℤ (x *ℤ pos a)) (m +ℤ (y *ℤ pos a)) c some' e in
    times_cancel x y a some (omega (arith, ints, f))

one_scale : (r : Binary) (e d x y : ℤ) → (x ≡ y) ↔ Same (value_of r e d x) (value_of r e d y)
one_scale r e d x y =
    let t = int_min r.exponent e in
    let low : t ≤ℤ r.exponent = omega (arith, ints, clamps) in
    let step : t ≤ℤ e = omega (arith, ints, clamps) in
    let tens : d ≤ℤ d = omega (arith, ints) in
    let both = same_in_units r e d x r e d y t d low step tens low step tens in (
      λ same. both.0 (ap (λ k. whole r e d k t d) same),
      λ same. sum_cancel (scaled r t) x y (two_to_difference e t) (10 ^ nat_abs (d -ℤ d)) (pow_pos (nat_abs (e -ℤ t))) (one-le-pow (nat_abs (d -ℤ d)) 10 (omega arith)) (both.1 same),
    )

pub sides_alike : (left right : Side) (x y : ℤ) → left.mantissa ≡ right.mantissa → left.exponent ≡ right.exponent → left.e ≡ right.e → left.d ≡ right.d → (x ≡ y) ↔ Same (side_value left x) (side_value right y)
sides_alike left right x y m k e d =
    subst (λ (n : ℤ). (x ≡ y) ↔ Same (side_value left x) (value_of (binary n right.exponent) right.e right.d y)) m
    (subst (λ (n : ℤ). (x ≡ y) ↔ Same (side_value left x) (value_of (binary left.mantissa n) right.e right.d y)) k
    (subst (λ (n : ℤ). (x ≡ y) ↔ Same (side_value left x) (value_of (binary left.mantissa left.exponent) n right.d y)) e
    (subst (λ (n : ℤ). (x ≡ y) ↔ Same (side_value left x) (value_of (binary left.mantissa left.exponent) left.e n y)) d
    (one_scale (reference_of left) left.e left.d x y))))
