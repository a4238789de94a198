use Rattle.std.proofs.Common.{[], ◌∷◌, ◌∙◌, ap, length, arith, subst}
use Rattle.grib_packing.specs.declared.column.Point.{Point}
use Rattle.grib_group_reading.proofs.CodeRuns.{passed_next}
use Rattle.grib_complex_reading.proofs.AtOnce.{PlainKept, plain_kept-more}
use Rattle.grib_complex_reading.proofs.runs.keep_plainly.Goals as goal

pub loop-index-preserved : goal.loop-index-preserved
loop-index-preserved g c = record {
  so_far =
      let kept = g.K.Keeper.kept in
      passed_next (PlainKept kept) c.args.keeper (plain_kept-more kept g.met.K.Keeper.none g.met.K.Keeper.more) c.loop-index.invariant.so_far c.next.ensures.codes
      (subst (λ (point : Point). kept c.loop-index.keeper (point ∷ []) c.keep_within-keeper.result) c.plain_point-point.ensures c.keep_within-keeper.ensures.kept);
  left = omega (arith, c.loop-index.invariant.left, ap length c.next.ensures.codes);
  stands = c.next.ensures.stands;
  limit = c.next.ensures.limit ∙ c.loop-index.invariant.limit;
  room = omega (arith, c.loop-index.invariant.room, ap length c.next.ensures.codes, c.keep_within-keeper.ensures.room);
}
