use Rattle.std.proofs.Common.{arith}
use Rattle.grib_block_reading.proofs.Spread.{behind_first}
use Rattle.grib_block_reading.proofs.pairs.spread_behind_reference.Goals as goal

pub returns : goal.returns
returns c = behind_first _ _ _ _ _ c.requires.some (omega (arith, c.requires.some, c.requires.room)) c.pair-first.ensures c.spread_pairs.ensures
