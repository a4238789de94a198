use Rattle.std.proofs.Common.{◌≤◌, ℕ, take, length, map}
use Rattle.grib_coding.specs.Coding.{greatest}
use Rattle.grib_coding.specs.Numbers.{Code}
use Rattle.grib_block_reading.specs.Kept.{IsKept, NoReference}
use Rattle.grib_block_reading.proofs.numbers.keep_codes.Given as goal

abbrev pub invariant-loop-code : goal.invariant-loop-code
invariant-loop-code g l = record {
  last : l.last ≤ greatest l.fn.coding;
  kept : (place : ℕ) → NoReference l.fn.coding place (length l.codes)
      → IsKept g.K.Keeper.kept l.fn.coding place l.fn.kept.last (map Code (take l.code-index l.codes)) l.fn.kept.keeper l.last l.keeper;
}
