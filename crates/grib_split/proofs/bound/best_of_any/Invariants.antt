use Rattle.std.proofs.Common.{ℕ, ◌+◌, ◌-◌, ◌*◌, ◌^◌, ◌<◌, ◌≤◌, take, drop}
use Rattle.std.specs.Prelude.{slice_index}
use Rattle.grib_packing.specs.Groupings.{width_of}
use Rattle.grib_codes.specs.Span.{IsSpan}
use Rattle.grib_split.specs.Costs.{header_of}
use Rattle.grib_split.proofs.bound.best_of_any.Given as goal

abbrev pub invariant-loop-at : goal.invariant-loop-at
invariant-loop-at l = record {
  span : IsSpan l.span (take l.at (drop l.from l.codes));
  ordered : l.span.least ≤ l.span.greatest;
  small : l.span.greatest + l.costs.reserved < 2 ^ 32;
  few : l.best ≤ 300;
  least : (n : ℕ) → 1 ≤ n → n ≤ l.at
      → l.best ≤ header_of l.costs + n * width_of l.costs.reserved (take n (drop l.from l.codes)) + slice_index l.rest (l.count - n);
}
