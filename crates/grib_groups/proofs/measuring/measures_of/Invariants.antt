use Rattle.std.proofs.Common.{◌≡◌, List, ◌++◌, length, drop, All}
use Rattle.grib_packing.specs.Groupings.{IsGrouping, runs}
use Rattle.grib_codes.specs.Span.{IsBelow}
use Rattle.grib_groups.specs.declared.measuring.Measure.{Measure}
use Rattle.grib_groups.specs.Encoding.{AreMeasures}
use Rattle.grib_groups.proofs.measuring.measures_of.Given as goal

abbrev pub invariant-loop-length : goal.invariant-loop-length
invariant-loop-length l = record {
  grouping : IsGrouping (length l.rest) (drop l.length-index l.lengths);
  codes : All (IsBelow l.reserved) l.rest;
  are : (more : List Measure) → AreMeasures l.reserved l.bits more (runs (drop l.length-index l.lengths) l.rest)
      → AreMeasures l.reserved l.bits (l.measures.items ++ more) (runs l.lengths l.fn.codes);
  count : length l.measures.items ≡ l.length-index;
}
