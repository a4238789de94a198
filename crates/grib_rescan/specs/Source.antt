-- The points of a grid as packed numbers.
use Rattle.std.specs.Prelude.{◌*◌, ◌≤◌, List, length, map, pos}
use Rattle.grib_bits.specs.Bits.{bits}
use Rattle.grib_bits.specs.Plain.{plain}
use Rattle.grib_packing.specs.declared.column.Point.{Point}
use Rattle.grib_packing.specs.declared.column.Point.TheVariants.{Scaled}
use Rattle.grib_rescan.specs.declared.source.Numbers.{Numbers}

-- each is present, with its number
abbrev pub number_points : Numbers → List Point
number_points numbers = map (λ x. Scaled (pos x)) (plain (bits numbers.octets.now) numbers.bits numbers.count)

-- no number is wider than 48 bits, and all of them stand in the octets
pub record NumbersStand (numbers : Numbers) : Type 0 where
  pub width : numbers.bits ≤ 48
  pub within : numbers.count * numbers.bits ≤ 8 * length numbers.octets.now
