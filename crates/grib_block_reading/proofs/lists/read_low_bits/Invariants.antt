use Rattle.grib_block_reading.proofs.Fronts.{LowSoFar}
use Rattle.grib_block_reading.proofs.lists.read_low_bits.Given as goal

abbrev pub invariant-loop-code : goal.invariant-loop-code
invariant-loop-code l = LowSoFar l.k l.fn.bits l.initial.codes l.codes l.code-index l.bits
