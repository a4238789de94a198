use Rattle.std.proofs.Common.{◌≡◌, ℕ, true, replicate}
use Rattle.grib_coding.specs.Coding.{is_mapped}
use Rattle.grib_coding.specs.Numbers.{Code}
use Rattle.grib_block_reading.specs.Kept.{IsKept, NoReference}
use Rattle.grib_block_reading.proofs.numbers.keep_zeros.Given as goal

abbrev pub invariant-loop-index : goal.invariant-loop-index
invariant-loop-index g l = record {
  same : is_mapped l.fn.coding ≡ true → l.number ≡ l.last;
  kept : (place : ℕ) → NoReference l.fn.coding place l.count
      → IsKept g.K.Keeper.kept l.fn.coding place l.fn.kept.last (replicate l._index (Code 0)) l.fn.kept.keeper l.last l.keeper;
}
