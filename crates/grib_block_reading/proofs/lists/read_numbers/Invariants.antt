use Rattle.std.proofs.Common.{length}
use Rattle.grib_coding.specs.Reading.{front_number}
use Rattle.grib_block_reading.proofs.Fronts.{SoFar}
use Rattle.grib_block_reading.proofs.lists.read_numbers.Given as goal

abbrev pub invariant-loop-number : goal.invariant-loop-number
invariant-loop-number l = SoFar (front_number l.width) (length l.initial.numbers) l.fn.bits l.numbers l.number-index l.bits
