use Rattle.std.proofs.Common.{length, drop, map, All}
use Rattle.grib_packing.specs.Groupings.{IsGrouping, runs, joined}
use Rattle.grib_packing.specs.Packed.{group_fields}
use Rattle.grib_codes.specs.Span.{IsTold}
use Rattle.grib_packing.proofs.Left.{Left}
use Rattle.grib_groups.specs.Encoding.{AreMeasures}
use Rattle.grib_groups.proofs.encoding.put_numbers.Given as goal

abbrev pub invariant-loop-length : goal.invariant-loop-length
invariant-loop-length l =
    let left = runs (drop l.length-index l.lengths) l.rest in
    record {
      grouping : IsGrouping (length l.rest) (drop l.length-index l.lengths);
      codes : All (IsTold l.reserved) l.rest;
      known : AreMeasures l.reserved l.bits l.told left;
      written : Left l.initial.out l.out (joined (map (group_fields l.reserved l.bits) (runs l.lengths l.fn.codes))) (joined (map (group_fields l.reserved l.bits) left));
    }
