-- The order of the values of points.
use Rattle.std.specs.Prelude.{pos, neg_ℤ, ◌≤ℤ◌}
use Rattle.std.specs.Int.{int_max}
use Rattle.grib_dyadic.specs.Value.{Exact, scaled_up}

-- The first is at most the second: multiplied by 2 ^ s * 10 ^ z, which makes both whole, it is.
abbrev pub AtMost : Exact → Exact → Type 0
AtMost v w =
    let s = int_max (pos 0) (int_max (neg_ℤ v.binary) (neg_ℤ w.binary)) in
    let z = int_max (pos 0) (int_max v.decimal w.decimal) in
    scaled_up v s z ≤ℤ scaled_up w s z
