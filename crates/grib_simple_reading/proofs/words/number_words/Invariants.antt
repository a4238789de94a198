use Rattle.std.proofs.Common.{◌≡◌}
use Rattle.grib_bits.specs.Bits.{bits}
use Rattle.grib_bits.specs.Plain.{plain}
use Rattle.grib_simple_reading.proofs.words.number_words.Given as goal

abbrev pub invariant-loop-index : goal.invariant-loop-index
invariant-loop-index l = l.words.items ≡ plain (bits l.octets) l.bits l.index
