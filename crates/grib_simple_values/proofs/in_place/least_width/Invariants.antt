use Rattle.std.proofs.Common.{◌≡◌}
use Rattle.grib_bits.specs.Bits.{bits}
use Rattle.grib_bits.specs.Plain.{plain}
use Rattle.grib_packing.specs.Groupings.{greatest}
use Rattle.grib_simple_values.proofs.in_place.least_width.Given as goal

abbrev pub invariant-loop-index : goal.invariant-loop-index
invariant-loop-index l = l.greatest ≡ greatest (plain (bits l.octets) l.bits l.index)
