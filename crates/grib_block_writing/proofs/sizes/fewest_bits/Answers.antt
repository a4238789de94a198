use Rattle.std.proofs.Common.{sym, ◌∙◌, arith}
use Rattle.grib_block_writing.proofs.Heads.{low_bits_few}
use Rattle.grib_block_writing.proofs.Options.{second_few, split_low}
use Rattle.grib_block_writing.proofs.sizes.fewest_bits.Goals as goal

pub pair_sum_of-requires-clause-small : goal.pair_sum_of-requires-clause-small
pair_sum_of-requires-clause-small c =
    second_few c.args.coding.now c.args.skip c.args.codes.now (omega arith) c.requires.fits.most_bits (omega arith) (sym c.choose.ensures ∙ c.in-Second.is)

pub high_sum_of-requires-clause-k : goal.high_sum_of-requires-clause-k
high_sum_of-requires-clause-k c =
    (low_bits_few c.args.coding.now _ (split_low c.args.coding.now c.args.skip c.args.codes.now _ _ (sym c.choose.ensures ∙ c.in-Split.is) c.from-in-Split-2.ensures)).0
