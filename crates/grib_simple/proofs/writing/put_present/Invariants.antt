use Rattle.std.proofs.Common.{length}
use Rattle.grib_packing.specs.Packed.{present_bits}
use Rattle.grib_packing.proofs.Left.{Left}
use Rattle.grib_simple.proofs.writing.put_present.Given as goal

abbrev pub invariant-loop-rest : goal.invariant-loop-rest
invariant-loop-rest l = Left l.initial.out l.out (present_bits l.points) (present_bits l.rest)

abbrev pub decreases-loop-rest : goal.decreases-loop-rest
decreases-loop-rest l = length l.rest
