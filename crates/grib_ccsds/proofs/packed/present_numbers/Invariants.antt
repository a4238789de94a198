use Rattle.std.proofs.Common.{◌≡◌, ◌++◌, drop}
use Rattle.grib_packing.specs.Packed.{simple_numbers}
use Rattle.grib_ccsds.proofs.packed.present_numbers.Given as goal

abbrev pub invariant-loop-point : goal.invariant-loop-point
invariant-loop-point l = l.numbers.items ++ simple_numbers (drop l.point-index l.points) ≡ simple_numbers l.points
