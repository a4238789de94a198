use Rattle.std.proofs.Common.{arith}
use Rattle.grib_bits.proofs.OctetNumbers.{AreOctets-known}
use Rattle.grib_bitmap.specs.Words.{bits_of_words}
use Rattle.grib_bitmap.proofs.Made.{octets_more, last-lt, octets_all}
use Rattle.grib_bitmap.proofs.words.octet_words.Goals as goal

pub loop-index-preserved : goal.loop-index-preserved
loop-index-preserved c =
    octets_more c.args.octets.now c.loop-index.words.items c.push.new.self.items c.loop-index.index c.read_u64.result (AreOctets-known c.args.octets.now c.type_inv.octets) (omega arith) c.read_u64.ensures c.in_ok-push.ensures.items c.loop-index.invariant

pub push_last-requires-clause-fits : goal.push_last-requires-clause-fits
push_last-requires-clause-fits c =
    last-lt c.args.octets.now c.args.count c.loop-index.index c.from.result c.get_bits.result c.requires (omega arith) (omega arith) c.get_bits.ensures

pub returns : goal.returns
returns c =
    octets_all c.args.octets.now c.args.count c.loop-index.index c.from.result c.get_bits.result c.requires (omega arith) (omega arith) c.get_bits.ensures
    (bits_of_words c.loop-index.words.items) (bits_of_words c.push_last.new.words.items) c.loop-index.invariant c.in_ok-push_last.ensures
