-- Exact values as numbers of the machine.
use Rattle.std.specs.Prelude.{from_bits}
use Rattle.std.specs.Float.Ieee.{Float, binary64}
use Rattle.grib_dyadic.specs.Value.{Exact}
use Rattle.grib_nearest.specs.declared.format.Format.TheVariants.{Binary64}
use Rattle.grib_arrays.specs.Values.{value_word}

-- the number of binary64 that is nearest to the exact value, ties to even
abbrev pub nearest_f64 : Exact → Float
nearest_f64 v = from_bits binary64 (value_word Binary64 v)
