use Rattle.std.proofs.Common.{◌≤◌, take}
use Rattle.grib_codes.specs.Span.{IsSpan}
use Rattle.grib_codes.proofs.span.Span.of.Given as goal

abbrev pub invariant-loop-done : goal.invariant-loop-done
invariant-loop-done l = record {
  span : IsSpan l.span (take l.done l.run);
  ordered : l.span.least ≤ l.span.greatest;
}
