use Rattle.std.proofs.Common.{◌≡◌, ℕ, ◌+◌, ◌%◌, ◌<◌, length}
use Rattle.std.specs.Prelude.{slice_index}
use Rattle.grib_split.proofs.slots.lengths_round.Given as goal

abbrev pub invariant-loop-index : goal.invariant-loop-index
invariant-loop-index l = record {
  size : length l.lengths ≡ 128;
  done : (i : ℕ) → i < l.index → slice_index l.lengths i ≡ i % 64 + 1;
}
