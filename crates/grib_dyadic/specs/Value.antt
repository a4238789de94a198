-- The value Y of a point, exactly: Y * 10 ^ D = R + X * 2 ^ E (WMO-No. 306, Volume I.2, FM 92 GRIB,
-- Section 7 and data representation template 5.0).
use Rattle.std.specs.Prelude.{◌≡◌, ◌^◌, ℤ, pos, neg_ℤ, ◌+ℤ◌, ◌-ℤ◌, ◌*ℤ◌, nat_abs}
use Rattle.std.specs.Int.{int_min, int_max}
use Rattle.grib_dyadic.specs.Reference.{Binary, two_to_difference}

-- stands for number * 2 ^ binary / 10 ^ decimal
pub record Exact : Type 0 where
  pub number : ℤ
  pub binary : ℤ
  pub decimal : ℤ

-- the value of a point with the reference value R, the scale factors E and D, and the scaled
-- integer X
abbrev pub value_of : Binary → ℤ → ℤ → ℤ → Exact
value_of r e d x =
    let t = int_min r.exponent e in
    record {
      number = (r.mantissa *ℤ pos (two_to_difference r.exponent t)) +ℤ (x *ℤ pos (two_to_difference e t));
      binary = t;
      decimal = d;
    }

-- number * 2 ^ (binary + s) * 10 ^ (z - decimal)
abbrev pub scaled_up : Exact → ℤ → ℤ → ℤ
scaled_up v s z = v.number *ℤ pos (2 ^ nat_abs (v.binary +ℤ s)) *ℤ pos (10 ^ nat_abs (z -ℤ v.decimal))

-- Both stand for the same number: multiplied by 2 ^ s * 10 ^ z, which makes both whole, they are equal.
abbrev pub Same : Exact → Exact → Type 0
Same v w =
    let s = int_max (pos 0) (int_max (neg_ℤ v.binary) (neg_ℤ w.binary)) in
    let z = int_max (pos 0) (int_max v.decimal w.decimal) in
    scaled_up v s z ≡ scaled_up w s z
