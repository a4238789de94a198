use Rattle.std.proofs.Common.{◌*◌, drop, map}
use Rattle.grib_packing.specs.Packed.{fields, packed_number}
use Rattle.grib_packing.proofs.Left.{Left}
use Rattle.grib_groups.proofs.encoding.put_pairs.Given as goal

abbrev pub invariant-loop-done : goal.invariant-loop-done
invariant-loop-done l =
    Left l.initial.out l.out (fields l.width (map (packed_number l.width l.reference) l.run)) (fields l.width (map (packed_number l.width l.reference) (drop (2 * l.done) l.run)))
