use Rattle.std.proofs.Common.{◌≡◌, ℕ, ◌+◌, ◌*◌, ◌≤◌, length, map, drop, All}
use Rattle.grib_packing.specs.Groupings.{IsGrouping, joined, runs}
use Rattle.grib_packing.specs.Packed.{group_fields}
use Rattle.grib_codes.specs.Span.{IsBelow}
use Rattle.grib_groups.specs.Encoding.{AreMeasures}
use Rattle.grib_complex.proofs.grouping.bits_of_each.Given as goal

abbrev pub invariant-loop-length : goal.invariant-loop-length
invariant-loop-length l = record {
  grouping : IsGrouping (length l.rest) (drop l.length-index l.lengths);
  codes : All (IsBelow l.reserved) l.rest;
  known : AreMeasures l.reserved l.reference_bits l.told (runs (drop l.length-index l.lengths) l.rest);
  sum : (b : ℕ) → l.bits + length (joined (map (group_fields l.reserved b) (runs (drop l.length-index l.lengths) l.rest)))
      ≡ length (joined (map (group_fields l.reserved b) (runs l.lengths l.codes)));
  few : l.bits + 32 * length l.rest ≤ 32 * length l.codes;
}
