use Rattle.std.proofs.Common.{arith}
use Rattle.grib_block_writing.proofs.Adding.{begin, follows, done, room_left}
use Rattle.grib_block_writing.proofs.Runs.{none_left}
use Rattle.grib_block_writing.proofs.writer.write_blocks.Goals as goal

pub loop-block-init : goal.loop-block-init
loop-block-init c = record { left = begin _ _; within = omega arith }

pub write_item-block-requires-clause-room : goal.write_item-block-requires-clause-room
write_item-block-requires-clause-room c = room_left _ _ _ _ c.loop-block.invariant.left c.requires.room

pub loop-block-preserved : goal.loop-block-preserved
loop-block-preserved c = record {
  left = follows _ _ _ _ _ _ c.loop-block.invariant.left c.write_item-block.ensures.left;
  within = c.write_item-block.ensures.within;
}

pub returns : goal.returns
returns c = done _ _ _ _ c.loop-block.invariant.left (none_left c.args.coding.now c.args.numbers.now c.loop-block.block (omega (arith, c.block_count-count.ensures)))
