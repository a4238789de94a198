use Rattle.std.proofs.Common.{drop, map}
use Rattle.grib_packing.specs.Packed.{fields}
use Rattle.grib_packing.proofs.Left.{Left}
use Rattle.grib_groups.proofs.encoding.put_same.Given as goal

abbrev pub invariant-loop-length : goal.invariant-loop-length
invariant-loop-length l =
    Left l.initial.out l.out (fields l.bits (map (λ n. l.reference) l.lengths)) (fields l.bits (map (λ n. l.reference) (drop l._length-index l.lengths)))
