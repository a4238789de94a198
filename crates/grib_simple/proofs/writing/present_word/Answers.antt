use Rattle.grib_simple.proofs.PointByPoint.{word_bits, word_lt}
use Rattle.std.proofs.Common.{arith}
use Rattle.grib_simple.proofs.writing.present_word.Goals as goal

pub loop-point-preserved : goal.loop-point-preserved
loop-point-preserved c =
    let i = c.loop-point.point-index in
    record {
      bits = word_bits c.args.points.now i c.loop-point.word c.present_bit.result _ c.loop-point-test.true (omega arith) c.present_bit.ensures.bit c.present_bit.ensures.small c.loop-point.invariant.bits;
      fits = word_lt c.args.points.now i c.loop-point.word c.present_bit.result _ c.loop-point-test.true (omega arith) c.present_bit.ensures.bit c.present_bit.ensures.small c.loop-point.invariant.fits;
    }
