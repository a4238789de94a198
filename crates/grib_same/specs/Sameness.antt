-- Whether the points of two fields mean the same, and where the first is that does not.
use Rattle.std.specs.Prelude.{ℕ, ◌+◌, Bool, true, false, cond, Option, None, Some, List, ◌∷◌, ℤ, pos, neg_ℤ}
use Rattle.std.specs.Int.{int_max}
use Rattle.std.specs.Ordering.{int_eq}
use Rattle.grib_dyadic.specs.Reference.{Binary}
use Rattle.grib_dyadic.specs.Value.{Exact, value_of, scaled_up}
use Rattle.grib_dyadic.specs.Meaning.{Meant, valued, missing, missing2}
use Rattle.grib_packing.specs.declared.column.Point.{Point}
use Rattle.grib_packing.specs.declared.column.Point.TheVariants.{Scaled, Missing, Missing2}

-- what a point means in a field with the reference value R and the scale factors E and D
abbrev pub meant : Binary → ℤ → ℤ → Point → Meant
meant r e d (Scaled x) = valued (value_of r e d x)
meant r e d Missing = missing
meant r e d Missing2 = missing2

-- whether both stand for the same number, as `Same` says: times 2 ^ s * 10 ^ z, which makes both whole, they are equal
abbrev pub is_same : Exact → Exact → Bool
is_same v w =
    let s = int_max (pos 0) (int_max (neg_ℤ v.binary) (neg_ℤ w.binary)) in
    let z = int_max (pos 0) (int_max v.decimal w.decimal) in
    int_eq (scaled_up v s z) (scaled_up w s z)

-- whether both points are one number, or missing in the same way
abbrev pub is_same_point : Meant → Meant → Bool
is_same_point (valued v) (valued w) = is_same v w
is_same_point missing missing = true
is_same_point missing2 missing2 = true
is_same_point _ _ = false

-- the number of the first point that is not the same, of points that are numbered from n on
abbrev pub difference_from : ℕ → List Meant → List Meant → Option ℕ
difference_from n (p ∷ ps) (q ∷ qs) = cond (is_same_point p q) (difference_from (n + 1) ps qs) (Some n)
difference_from n _ _ = None

-- the number, from 1, of the first point that is not the same, of as many points
abbrev pub first_difference : List Meant → List Meant → Option ℕ
first_difference ps qs = difference_from 1 ps qs
