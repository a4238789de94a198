use Rattle.std.proofs.Common.{◌-◌, replicate}
use Rattle.grib_packing.specs.Packed.{fields}
use Rattle.grib_packing.proofs.Left.{Left}
use Rattle.grib_simple.proofs.repeated.put_times.Given as goal

abbrev pub invariant-loop-time : goal.invariant-loop-time
invariant-loop-time l = Left l.initial.out l.out (fields l.bits (replicate l.count l.number)) (fields l.bits (replicate (l.count - l._time) l.number))
