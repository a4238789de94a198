use Rattle.std.proofs.Common.{◌≤◌, take}
use Rattle.grib_codes.specs.Span.{IsSpan}
use Rattle.grib_codes.specs.Words.{codes_of}
use Rattle.grib_codes.proofs.codes.span_of_each.Given as goal

abbrev pub invariant-loop-word : goal.invariant-loop-word
invariant-loop-word l = record {
  span : IsSpan l.span (codes_of l.reserved (take l.word-index l.words));
  ordered : l.span.least ≤ l.span.greatest;
}
