-- The values of the points of a field, of which both marks of missing are one.
use Rattle.std.specs.Prelude.{Option, None, Some, List, map, drop}
use Rattle.grib_bits.specs.Bits.{bits_of, signed}
use Rattle.grib_dyadic.specs.Reference.{Binary}
use Rattle.grib_dyadic.specs.Value.{Exact, value_of}
use Rattle.grib_packing.specs.declared.column.Point.{Point}
use Rattle.grib_packing.specs.declared.column.Point.TheVariants.{Scaled, Missing as PointMissing, Missing2}
use Rattle.grib_packing.specs.declared.column.Column.{Column}
use Rattle.grib.specs.Exact.{exact_of}
use Rattle.grib.specs.declared.value.Value.{Value}
use Rattle.grib.specs.declared.value.Value.TheVariants.{Number, Missing}
use Rattle.grib.specs.declared.points.Points.{Points}

-- the number, where there is one
abbrev pub number_of : Value → Option Exact
number_of (Number exact) = Some (exact_of exact)
number_of Missing = None

-- the value of a point of a column with this reference value
abbrev pub value_at : Binary → Column → Point → Option Exact
value_at reference column (Scaled x) = Some (value_of reference (signed (bits_of 16 column.e)) (signed (bits_of 16 column.d)) x)
value_at reference column PointMissing = None
value_at reference column Missing2 = None

abbrev pub values_of : Binary → Column → List Point → List (Option Exact)
values_of reference column points = map (value_at reference column) points

-- those that are still to come
abbrev pub values_left : Points → List (Option Exact)
values_left points = values_of points.reference points.column (drop points.before points.column.points)
