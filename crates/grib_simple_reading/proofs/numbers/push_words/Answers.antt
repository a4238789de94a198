use Rattle.std.proofs.Common.{◌*◌, ap₂, arith}
use Rattle.grib_bits.specs.Bits.{bits}
use Rattle.grib_simple_reading.proofs.Unpacking.{pushed, pushed_none, pushed_all}
use Rattle.grib_simple_reading.proofs.numbers.push_words.Goals as goal

pub loop-index-init : goal.loop-index-init
loop-index-init g c = pushed_none g.T.Unpacked.unpacked (bits c.args.octets.now) c.args.bits c.args.from c.args.items.now.items

pub loop-index-preserved : goal.loop-index-preserved
loop-index-preserved g c =
    pushed g.T.Unpacked.unpacked (bits c.args.octets.now) c.args.bits c.args.from c.loop-index.index _ _ c.of.result c.args.items.now.items c.loop-index.items.items c.push.new.self.items
    (omega arith) c.loop-index.invariant (ap₂ ◌*◌ c.from.ensures c.from-in-loop-index.ensures) c.number_in_word.ensures.value c.of.ensures c.in_ok-push.ensures.items

pub returns : goal.returns
returns g c = pushed_all g.T.Unpacked.unpacked (bits c.args.octets.now) c.args.bits c.args.from c.loop-index.index c.args.to c.args.items.now.items c.loop-index.items.items (omega arith) c.loop-index.invariant
