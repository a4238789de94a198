use Rattle.grib_simple.proofs.Times.{shorter, once_more, once_more-lt}
use Rattle.grib_simple.proofs.repeated.repeated.Goals as goal

pub loop-time-preserved : goal.loop-time-preserved
loop-time-preserved c =
    let w = c.args.bits in
    let i = c.loop-time._time in
    let room = shorter w i c.args.count c.loop-time-test.true c.requires.room in
    record {
      bits = once_more w i c.loop-time.word c.args.number room c.requires.fits c.loop-time.invariant.bits;
      fits = once_more-lt w i c.loop-time.word c.args.number room c.requires.fits c.loop-time.invariant.fits;
    }
