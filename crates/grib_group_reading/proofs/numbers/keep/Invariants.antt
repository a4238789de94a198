use Rattle.std.proofs.Common.{◌≡◌, ◌++◌, take}
use Rattle.grib_bits.specs.Bits.{bits}
use Rattle.grib_group_reading.proofs.numbers.keep.Given as goal

abbrev pub invariant-loop-octet : goal.invariant-loop-octet
invariant-loop-octet l = l.pending ≡ l.fn.pending ++ bits (take l.octet-index l.octets)
