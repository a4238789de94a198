use Rattle.std.proofs.Common.{◌≡◌, ℕ, ◌-◌, ◌*◌, ◌%◌, ◌<◌, ◌≤◌, List, length}
use Rattle.grib_coding.specs.Coding.{greatest}
use Rattle.grib_block_feeding.specs.declared.reading.Stage.TheVariants.{Items}
use Rattle.grib_block_feeding.specs.Feeding.{IsReading, IsFresh, GoingAt}
use Rattle.grib_block_feeding.proofs.reading.Reading.read_items.Given as goal

abbrev pub invariant-loop-item : goal.invariant-loop-item
invariant-loop-item g l = record {
  reading : IsReading l.self;
  last : l.kept.last ≤ greatest l.self.coding;
  coding : l.self.coding ≡ l.fn.self.coding;
  count : l.self.count ≡ l.fn.self.count;
  within : l.place ≤ 8 * length l.piece;
  fresh : l.place < 8 * length l.piece → l.self.stage ≡ Items → IsFresh l.self ((8 - l.place % 8) % 8);
  going : (octets : List ℕ) (first : g.row.K.Denot) → GoingAt g.K.Keeper.kept octets l.piece l.from first l.fn.self l.fn.kept.last l.fn.kept.keeper
      → GoingAt g.K.Keeper.kept octets l.piece l.place first l.self l.kept.last l.kept.keeper;
}
