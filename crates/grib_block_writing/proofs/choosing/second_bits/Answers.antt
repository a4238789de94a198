use Rattle.std.proofs.Common.{arith}
use Rattle.grib_block_writing.proofs.PairSums.{pair_sum-more}
use Rattle.grib_block_writing.proofs.choosing.second_bits.Goals as goal

pub returns-then-sum-plain-clause-no_fewer : goal.returns-then-sum-plain-clause-no_fewer
returns-then-sum-plain-clause-no_fewer c same = omega (arith, pair_sum-more c.args.codes.now c.requires.pairs, c.requires.sum)
