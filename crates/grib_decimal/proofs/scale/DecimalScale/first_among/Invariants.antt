use Rattle.std.proofs.Common.{◌≡◌, ◌<◌, ℕ, false, get_or, pos}
use Rattle.grib_packing.specs.declared.column.Point.TheVariants.{Scaled}
use Rattle.grib_decimal.specs.Range.{is_point_too_large}
use Rattle.grib_decimal.proofs.scale.DecimalScale.first_among.Given as goal

-- none of the points so far is too large
abbrev pub invariant-loop-index : goal.invariant-loop-index
invariant-loop-index l = (k : ℕ) → k < l.index → is_point_too_large l.self (get_or l.points k (Scaled (pos 0))) ≡ false
