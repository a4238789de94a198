use Rattle.std.proofs.Common.{◌≡◌, ℕ, ◌≤◌, List}
use Rattle.grib_coding.specs.Coding.{greatest}
use Rattle.grib_block_feeding.specs.Feeding.{IsReading, GoingAt}
use Rattle.grib_block_feeding.proofs.reading.Reading.end_item.Given as goal

abbrev pub invariant-loop-place : goal.invariant-loop-place
invariant-loop-place g l = record {
  reading : IsReading l.self;
  last : l.kept.last ≤ greatest l.self.coding;
  coding : l.self.coding ≡ l.fn.self.coding;
  count : l.self.count ≡ l.fn.self.count;
  block : l.self.block ≡ l.block;
  going : (octets : List ℕ) (first : g.row.K.Denot) → GoingAt g.K.Keeper.kept octets l.piece 0 first l.fn.self l.fn.kept.last l.fn.kept.keeper
      → GoingAt g.K.Keeper.kept octets l.piece l.place first l.self l.kept.last l.kept.keeper;
}
