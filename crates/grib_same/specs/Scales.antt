-- What the points of a field mean by the numbers that it gives them: E and D stand in two octets each, a sign and a magnitude
-- (WMO-No. 306, Volume I.2, FM 92 GRIB edition 2, Section 5, octets 16-19).
use Rattle.std.specs.Prelude.{ℤ}
use Rattle.grib_bits.specs.Bits.{bits_of, signed}
use Rattle.grib_dyadic.specs.Value.{Exact, value_of}
use Rattle.grib_dyadic.specs.Meaning.{Meant}
use Rattle.grib_packing.specs.declared.column.Point.{Point}
use Rattle.grib_same.specs.declared.scale.ValueScale.{ValueScale}
use Rattle.grib_same.specs.Sameness.{meant}

-- what a point means
abbrev pub meant_by : ValueScale → Point → Meant
meant_by scale = meant scale.reference (signed (bits_of 16 scale.e)) (signed (bits_of 16 scale.d))

-- the value of the point with the scaled integer X
abbrev pub value_by : ValueScale → ℤ → Exact
value_by scale = value_of scale.reference (signed (bits_of 16 scale.e)) (signed (bits_of 16 scale.d))
