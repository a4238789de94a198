-- The number that an exact value stands for, and the number of the machine nearest to it.
use Rattle.std.specs.Prelude.{Option, option_map}
use Rattle.std.specs.Float.Ieee.{Float}
use Rattle.grib_bits.specs.Bits.{bits_of, signed}
use Rattle.grib_dyadic.specs.Value.{Exact as Number, value_of}
use Rattle.grib_arrays.specs.Numbers.{nearest_f64}
use Rattle.grib.specs.declared.value.Exact.{Exact}

abbrev pub exact_of : Exact → Number
exact_of exact = value_of exact.reference (signed (bits_of 16 exact.binary)) (signed (bits_of 16 exact.decimal)) exact.scaled

-- of a value that may be missing
abbrev pub nearest_number : Option Number → Option Float
nearest_number value = option_map nearest_f64 value
