-- One octet more, and all of them.
use Rattle.std.proofs.Common.{◌-◌, ◌*◌, ◌/◌, length, take, drop, arith}
use Rattle.grib_bits.proofs.OctetNumbers.{AreOctets-known, AreOctets-take, AreOctets-drop}
use Rattle.grib_bits.proofs.Encoding.{octet_more, octets_end}
use Rattle.grib_bits.proofs.copying.write_octets.Goals as goal

pub loop-octet-preserved : goal.loop-octet-preserved
loop-octet-preserved c =
    let m = c.args.octets.now in
    let at = 8 * (length m / 8) in
    octet_more c.write_words.new.out c.loop-octet.out c.write_u8.new.out (take (length m - at) (drop at m)) c.loop-octet.octet-index
    (AreOctets-take (length m - at) (drop at m) (AreOctets-drop at m (AreOctets-known m c.type_inv.octets)))
    (omega arith) c.loop-octet.invariant c.write_u8.ensures.octets

pub returns : goal.returns
returns c =
    let m = c.args.octets.now in
    octets_end c.args.out.now c.write_words.new.out c.loop-octet.out m (8 * (length m / 8)) c.loop-octet.octet-index
    c.write_words.ensures c.loop-octet.invariant (omega arith)
