use Rattle.std.proofs.Common.{arith}
use Rattle.grib_block_reading.proofs.Spread.{next}
use Rattle.grib_block_reading.proofs.pairs.spread_pairs.Goals as goal

pub loop-place-preserved : goal.loop-place-preserved
loop-place-preserved c =
    next _ _ _ _ _ c.loop-place-test.true (omega (arith, c.loop-place.auto.codes, c.requires.room)) c.loop-place.invariant c.pair-first.ensures
