use Rattle.std.proofs.Common.{◌≡◌, ◌-◌, ◌++◌, map}
use Rattle.grib_bits.specs.Bits.{bits}
use Rattle.grib_simple_reading.specs.Part.{plain_from}
use Rattle.grib_simple_reading.proofs.numbers.push_words.Given as goal

abbrev pub invariant-loop-index : goal.invariant-loop-index
invariant-loop-index g l = l.items.items ≡ l.initial.items.items ++ map g.T.Unpacked.unpacked (plain_from (bits l.octets) l.bits l.from (l.index - l.from))
