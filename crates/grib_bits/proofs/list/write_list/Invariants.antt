use Rattle.std.proofs.Common.{take}
use Rattle.grib_bits.specs.Encoding.{AddsOctets}
use Rattle.grib_bits.specs.Listed.{numbers_octets}
use Rattle.grib_bits.proofs.list.write_list.Given as goal

abbrev pub invariant-loop-number : goal.invariant-loop-number
invariant-loop-number l = AddsOctets l.initial.out l.out (numbers_octets l.size (take l.number-index l.numbers))
