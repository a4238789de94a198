use Rattle.std.proofs.Common.{◌≡◌, ◌+◌, ◌*◌, ◌++◌}
use Rattle.grib_bits.specs.Bits.{bits}
use Rattle.grib_bits.specs.Plain.{plain}
use Rattle.grib_packing.specs.Packed.{fields}
use Rattle.grib_simple_values.proofs.in_place.put_numbers.Given as goal

abbrev pub invariant-loop-index : goal.invariant-loop-index
invariant-loop-index l = record {
  bits : l.out.bits ≡ l.initial.out.bits ++ fields l.width (plain (bits l.octets) l.bits l.index);
  spare : l.out.spare + l.index * l.width ≡ l.initial.out.spare;
}
