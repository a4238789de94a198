-- One word more.
use Rattle.std.proofs.Common.{arith}
use Rattle.grib_bits.proofs.OctetNumbers.{AreOctets-known}
use Rattle.grib_bits.proofs.Encoding.{word_more}
use Rattle.grib_bits.proofs.copying.write_words.Goals as goal

pub loop-word-preserved : goal.loop-word-preserved
loop-word-preserved c =
    word_more c.args.out.now c.loop-word.out c.put.new.self c.args.octets.now c.loop-word.word c.read_u64.result
    (AreOctets-known c.args.octets.now c.type_inv.octets) (omega arith) c.read_u64.ensures c.loop-word.invariant c.put.ensures.bits c.put.ensures.spare
