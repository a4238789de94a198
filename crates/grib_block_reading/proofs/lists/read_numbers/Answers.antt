use Rattle.std.proofs.Common.{arith}
use Rattle.grib_block_reading.proofs.Fronts.{next}
use Rattle.grib_block_reading.proofs.lists.read_numbers.Goals as goal

pub loop-number-preserved : goal.loop-number-preserved
loop-number-preserved c = next _ _ _ _ _ _ _ _ c.loop-number.invariant (omega arith) (omega arith) c.in_ok-number.ensures.found
