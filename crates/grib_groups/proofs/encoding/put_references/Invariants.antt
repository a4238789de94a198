use Rattle.std.proofs.Common.{◌^◌, ◌<◌, length, drop, map, All}
use Rattle.grib_packing.specs.Groupings.{IsGrouping, runs}
use Rattle.grib_packing.specs.Packed.{fields, reference_of}
use Rattle.grib_codes.specs.Span.{IsTold}
use Rattle.grib_packing.proofs.Left.{Left}
use Rattle.grib_groups.specs.Encoding.{AreMeasures}
use Rattle.grib_groups.proofs.encoding.put_references.Given as goal

abbrev pub invariant-loop-length : goal.invariant-loop-length
invariant-loop-length l =
    let left = runs (drop l.length-index l.lengths) l.rest in
    record {
      grouping : IsGrouping (length l.rest) (drop l.length-index l.lengths);
      codes : All (IsTold l.reserved) l.rest;
      known : AreMeasures l.reserved l.bits l.told left;
      fits : All (λ run. reference_of l.bits run < 2 ^ l.bits) left;
      written : Left l.initial.out l.out (fields l.bits (map (reference_of l.bits) (runs l.lengths l.fn.codes))) (fields l.bits (map (reference_of l.bits) left));
    }
