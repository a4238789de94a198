use Rattle.std.proofs.Common.{◌^◌, ◌<◌, length, drop, map, All}
use Rattle.grib_packing.specs.Groupings.{IsGrouping, runs, width_of}
use Rattle.grib_packing.specs.Packed.{fields}
use Rattle.grib_codes.specs.Span.{IsTold}
use Rattle.grib_packing.proofs.Left.{Left}
use Rattle.grib_groups.specs.Encoding.{AreMeasures}
use Rattle.grib_groups.proofs.encoding.put_widths.Given as goal

abbrev pub invariant-loop-length : goal.invariant-loop-length
invariant-loop-length l =
    let left = runs (drop l.length-index l.lengths) l.rest in
    record {
      grouping : IsGrouping (length l.rest) (drop l.length-index l.lengths);
      codes : All (IsTold l.reserved) l.rest;
      known : AreMeasures l.reserved l.reference_bits l.told left;
      fits : All (λ run. width_of l.reserved run < 2 ^ l.bits) left;
      written : Left l.initial.out l.out (fields l.bits (map (width_of l.reserved) (runs l.lengths l.fn.codes))) (fields l.bits (map (width_of l.reserved) left));
    }
