use Rattle.std.proofs.Common.{◌≡◌, ◌-◌, ◌++◌, map, pos}
use Rattle.grib_bits.specs.Bits.{bits}
use Rattle.grib_packing.specs.declared.column.Point.TheVariants.{Scaled}
use Rattle.grib_simple_reading.specs.Part.{plain_from}
use Rattle.grib_rescan.proofs.source.add_numbers.Given as goal

abbrev pub invariant-loop-index : goal.invariant-loop-index
invariant-loop-index l = l.out.items ≡ l.initial.out.items ++ map (λ x. Scaled (pos x)) (plain_from (bits l.octets) l.bits l.from (l.index - l.from))
