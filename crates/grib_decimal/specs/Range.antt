-- The points of a field whose values are too large for a text.
use Rattle.std.specs.Prelude.{ℕ, ◌+◌, Bool, false, Option, option_map, List, position}
use Rattle.grib_packing.specs.declared.column.Point.{Point}
use Rattle.grib_packing.specs.declared.column.Point.TheVariants.{Scaled, Missing, Missing2}
use Rattle.grib_decimal.specs.Decimal.{Scale, value_at, is_too_large}

abbrev pub is_point_too_large : Scale → Point → Bool
is_point_too_large s (Scaled x) = is_too_large (value_at s x) s.places
is_point_too_large s Missing = false
is_point_too_large s Missing2 = false

-- the place, from 1, of the first such point
abbrev pub first_too_large : Scale → List Point → Option ℕ
first_too_large s points = option_map (λ n. n + 1) (position (is_point_too_large s) points)
