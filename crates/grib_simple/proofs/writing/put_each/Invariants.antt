use Rattle.std.proofs.Common.{drop}
use Rattle.grib_packing.specs.Packed.{fields, simple_numbers}
use Rattle.grib_packing.proofs.Left.{Left}
use Rattle.grib_simple.proofs.writing.put_each.Given as goal

abbrev pub invariant-loop-point : goal.invariant-loop-point
invariant-loop-point l = Left l.initial.out l.out (fields l.bits (simple_numbers l.points)) (fields l.bits (simple_numbers (drop l.point-index l.points)))
