use Rattle.std.proofs.Common.{◌-◌, ◌≤◌, drop, length}
use Rattle.grib_coding.specs.Coding.{block_count}
use Rattle.grib_coding.specs.Blocks.{blocks_of}
use Rattle.grib_coding.specs.Written.{bits_from, written}
use Rattle.grib_block_writing.specs.Steps.{Leaves}
use Rattle.grib_block_writing.proofs.writer.write_blocks.Given as goal

abbrev pub invariant-loop-block : goal.invariant-loop-block
invariant-loop-block l = record {
  left : Leaves l.fn.out l.out (written l.coding l.numbers) (bits_from l.coding l.block (drop l.block (blocks_of l.coding l.numbers)));
  within : l.block ≤ block_count l.coding (length l.numbers);
}

abbrev pub decreases-loop-block : goal.decreases-loop-block
decreases-loop-block l = l.count - l.block
