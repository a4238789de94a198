use Rattle.std.proofs.Common.{List, Bool, length, ap, arith}
use Rattle.std.proofs.lemmas.List.{length-drop}
use Rattle.grib_bits.specs.Bits.{bits}
use Rattle.grib_bits.proofs.OctetBits.{length-bits}
use Rattle.grib_block_reading.proofs.bits_left.BitsLeft.ahead.Goals as goal

pub get_bits-requires-clause-within : goal.get_bits-requires-clause-within
get_bits-requires-clause-within c =
    let octets = c.self.inside.octets.now in
    omega (arith, length-bits octets, length-drop c.self.inside.at (bits octets), c.self.invariant, c.len.ensures, c.min-count.ensures, ap (λ (ys : List Bool). length ys) c.self.view_is)
