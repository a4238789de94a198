use Rattle.std.proofs.Common.{◌≡◌, ◌*◌, ◌++◌}
use Rattle.grib_bits.specs.Bits.{bits}
use Rattle.grib_bits.specs.Plain.{plain}
use Rattle.grib_simple_reading.proofs.numbers.push_pairs.Given as goal

abbrev pub invariant-loop-eight : goal.invariant-loop-eight
invariant-loop-eight l = l.numbers.items ≡ l.initial.numbers.items ++ plain (bits l.octets) 16 (8 * l.eight)
