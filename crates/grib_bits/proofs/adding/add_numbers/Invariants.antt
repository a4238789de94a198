use Rattle.std.proofs.Common.{◌≡◌, ◌++◌, take}
use Rattle.grib_bits.specs.Encoding.{all_octets}
use Rattle.grib_bits.proofs.adding.add_numbers.Given as goal

abbrev pub invariant-loop-number : goal.invariant-loop-number
invariant-loop-number l = l.out.items ≡ l.initial.out.items ++ all_octets (take l.number-index l.numbers)
