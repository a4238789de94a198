use Rattle.std.proofs.Common.{◌∙◌, sym, ap, length, arith}
use Rattle.grib_group_reading.proofs.CodeRuns.{passed_next}
use Rattle.grib_complex_reading.specs.Tells.{SteadilyTook}
use Rattle.grib_complex_reading.proofs.AtOnce.{steadily-more}
use Rattle.grib_complex_reading.proofs.runs.keep_steadily.Goals as goal

pub loop-index-preserved : goal.loop-index-preserved
loop-index-preserved g c = record {
  so_far =
      let kept = g.K.Keeper.kept in
      passed_next (SteadilyTook kept) c.args.taker (steadily-more kept g.met.K.Keeper.none g.met.K.Keeper.more) c.loop-index.invariant.so_far c.next-code.ensures.codes c.take_within-taker.ensures.took;
  left = omega (arith, c.loop-index.invariant.left, ap length c.next-code.ensures.codes);
  stands = c.next-code.ensures.stands;
  limit = c.next-code.ensures.limit ∙ c.loop-index.invariant.limit ∙ sym c.take_within-taker.ensures.limit;
  room = omega (arith, c.loop-index.invariant.room, ap length c.next-code.ensures.codes, c.take_within-taker.ensures.room);
  steady = omega (arith, c.loop-index.invariant.steady, ap length c.next-code.ensures.codes, c.take_within-taker.ensures.left);
}
