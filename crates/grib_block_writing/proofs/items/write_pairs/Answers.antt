use Rattle.std.proofs.Common.{arith}
use Rattle.grib_block_writing.proofs.Adding.{next, room, left-same, pairs_cut}
use Rattle.grib_block_writing.proofs.items.write_pairs.Goals as goal

pub loop-pair-preserved : goal.loop-pair-preserved
loop-pair-preserved c =
    next _ _ _ _ _ _ (left-same _ _ _ _ _ (pairs_cut c.args.codes.now c.loop-pair.pair c.requires.pairs (omega arith)) c.loop-pair.invariant)
    c.write_sequence.ensures
