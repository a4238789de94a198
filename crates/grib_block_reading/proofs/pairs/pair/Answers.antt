use Rattle.grib_block_reading.proofs.Spread.{found}
use Rattle.grib_block_reading.proofs.pairs.pair.Goals as goal

pub returns-then-second-sum : goal.returns-then-second-sum
returns-then-second-sum c = found _ _ _ c.loop-sum.invariant c.if-second-sum.true
