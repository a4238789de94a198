-- Blocks that a packing may be told to write.
use Rattle.std.specs.Prelude.{◌≡◌, ℕ, ◌≤◌, true}
use Rattle.grib_packing.specs.Coded.{is_block}
use Rattle.grib_packing.specs.Written.{IsBlocks}
use Rattle.grib_block_feeding.specs.Blocks.{block_known}

pub blocks_known : (block interval : ℕ) → is_block block ≡ true → 1 ≤ interval → interval ≤ 4096 → IsBlocks block interval
blocks_known block interval is some most = (block_known block is, some, most)
