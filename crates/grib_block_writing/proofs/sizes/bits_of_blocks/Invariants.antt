use Rattle.std.proofs.Common.{◌≡◌, ◌+◌, ◌-◌, ◌*◌, ◌^◌, ◌≤◌, drop, length}
use Rattle.grib_coding.specs.Coding.{block_count}
use Rattle.grib_coding.specs.Blocks.{blocks_of}
use Rattle.grib_coding.specs.Written.{bits_from, written}
use Rattle.grib_block_writing.proofs.sizes.bits_of_blocks.Given as goal

abbrev pub invariant-loop-block : goal.invariant-loop-block
invariant-loop-block l = record {
  is : l.bits + length (bits_from l.coding l.block (drop l.block (blocks_of l.coding l.numbers))) ≡ length (written l.coding l.numbers);
  within : l.block ≤ block_count l.coding (length l.numbers);
  small : l.bits ≤ l.block * 2 ^ 12;
}

abbrev pub decreases-loop-block : goal.decreases-loop-block
decreases-loop-block l = l.count - l.block
