use Rattle.std.proofs.Common.{take, arith}
use Rattle.std.proofs.lemmas.List.{length-take-le}
use Rattle.grib_bits.specs.Bits.{bits}
use Rattle.grib_bits.proofs.OctetBits.{length-bits}
use Rattle.grib_bitmap.proofs.WordBits.{HoldBits-made, bits_made}
use Rattle.grib_bitmap.proofs.mask.Mask.of_octets.Goals as goal

pub invariant_of-result : goal.invariant_of-result
invariant_of-result c =
    let own = bits c.args.octets.now in
    HoldBits-made c.in_ok-words.words.items (take c.args.points own) c.args.points c.in_ok-words.ensures (length-take-le c.args.points own (omega (arith, length-bits c.args.octets.now))) (omega arith)

pub returns : goal.returns
returns c =
    let own = bits c.args.octets.now in
    bits_made c.in_ok-words.words.items (take c.args.points own) c.args.points c.in_ok-words.ensures (length-take-le c.args.points own (omega (arith, length-bits c.args.octets.now)))
