use Rattle.std.proofs.Common.{List, Bool, ◌%◌, ap, ◌∙◌, length, drop, arith}
use Rattle.grib_bits.specs.Bits.{bits}
use Rattle.grib_bits.proofs.OctetBits.{length-bits}
use Rattle.grib_block_reading.proofs.Places.{to_octet}
use Rattle.grib_block_reading.proofs.bits_left.BitsLeft.drop_to_octet.Goals as goal

pub returns : goal.returns
returns c =
    let octets = c.self.inside.octets.now in
    to_octet (bits octets) (length octets) c.self.inside.at c.div_ceil.result (length-bits octets) (omega (arith, c.self.invariant)) (omega (arith, c.div_ceil.ensures))
    ∙ ap (λ (xs : List Bool). drop (length xs % 8) xs) c.self.view_is
