use Rattle.std.proofs.Common.{ap, length, arith}
use Rattle.grib_block_writing.proofs.Runs.{none_left}
use Rattle.grib_block_writing.proofs.sizes.bits_of_blocks.Goals as goal

pub loop-block-preserved : goal.loop-block-preserved
loop-block-preserved c = record {
  is = omega (arith, c.loop-block.invariant.is, c.size_of_item-item.ensures.left);
  within = c.size_of_item-item.ensures.within;
  small = omega (arith, c.loop-block.invariant.small, c.size_of_item-item.ensures.small, c.size_of_item-item.ensures.some);
}

pub returns : goal.returns
returns c =
    omega (arith, c.loop-block.invariant.is, ap length (none_left c.args.coding.now c.args.numbers.now c.loop-block.block (omega (arith, c.block_count-count.ensures))))
