use Rattle.std.proofs.Common.{◌≡◌, ℕ, ◌<◌, ◌≤◌, length}
use Rattle.std.specs.Prelude.{slice_index}
use Rattle.grib_split.specs.Runs.{SameNumbers, SameMarks, SameWidths, price_at}
use Rattle.grib_split.proofs.slots.Slots.price.Given as goal

abbrev pub invariant-loop-place : goal.invariant-loop-place
invariant-loop-place l = record {
  size : length l.self.cost ≡ 64;
  first : l.place ≡ 0 → l.least ≡ 65535;
  done : (p : ℕ) → p < l.place → slice_index l.self.cost p ≡ price_at l.initial.self l.at p;
  least : (p : ℕ) → p < l.place → l.least ≤ price_at l.initial.self l.at p;
  one : 0 < l.place → (p : ℕ) × (p < 64) × (price_at l.initial.self l.at p ≡ l.least);
  numbers : SameNumbers l.initial.self l.self;
  marks : SameMarks l.initial.self l.self;
  widths : SameWidths l.initial.self l.self;
  after : l.self.after ≡ l.initial.self.after;
}
