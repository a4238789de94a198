use Rattle.std.proofs.Common.{◌-◌, drop, map}
use Rattle.grib_packing.specs.Groupings.{length_bits}
use Rattle.grib_packing.specs.Packed.{fields}
use Rattle.grib_packing.proofs.Left.{Left}
use Rattle.grib_groups.proofs.encoding.put_lengths.Given as goal

abbrev pub invariant-loop-length : goal.invariant-loop-length
invariant-loop-length l =
    Left l.initial.out l.out (fields length_bits (map (λ n. n - 1) l.lengths)) (fields length_bits (map (λ n. n - 1) (drop l.length-index l.lengths)))
