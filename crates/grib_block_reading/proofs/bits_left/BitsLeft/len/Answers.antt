use Rattle.std.proofs.Common.{List, Bool, length, drop, ap, arith}
use Rattle.std.proofs.lemmas.List.{length-drop}
use Rattle.grib_bits.specs.Bits.{bits}
use Rattle.grib_bits.proofs.OctetBits.{length-bits}
use Rattle.grib_block_reading.proofs.bits_left.BitsLeft.len.Goals as goal

pub returns : goal.returns
returns c =
    let octets = c.self.inside.octets.now in
    let xs = drop c.self.inside.at (bits octets) in
    omega (arith, length-bits octets, length-drop c.self.inside.at (bits octets), c.self.invariant, ap (λ (ys : List Bool). length ys) c.self.view_is)
