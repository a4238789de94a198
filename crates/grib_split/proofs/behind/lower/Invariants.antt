use Rattle.std.proofs.Common.{◌≡◌, ℕ, ◌+◌, ◌<◌, ◌≤◌, length}
use Rattle.std.specs.Prelude.{slice_index}
use Rattle.grib_split.proofs.behind.lower.Given as goal

abbrev pub invariant-loop-place : goal.invariant-loop-place
invariant-loop-place l = record {
  size : length l.costs ≡ 64;
  done : (p : ℕ) → p < l.place → slice_index l.costs p + 32768 ≡ slice_index l.initial.costs p;
  low : (p : ℕ) → p < l.place → slice_index l.costs p < 32768;
  rest : (p : ℕ) → l.place ≤ p → slice_index l.costs p ≡ slice_index l.initial.costs p;
}
