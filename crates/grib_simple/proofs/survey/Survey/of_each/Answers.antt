use Rattle.std.proofs.Common.{◌-◌, ◌+◌, ◌≡◌, ◌∷◌, ℕ, pos, drop, get_or, subst, arith}
use Rattle.grib_packing.specs.declared.column.Point.{Point}
use Rattle.grib_packing.specs.declared.column.Point.TheVariants.{Scaled}
use Rattle.grib_simple.specs.Survey.{Surveys}
use Rattle.grib_simple.proofs.Seen.{next_point}
use Rattle.grib_simple.proofs.survey.Survey.of_each.Goals as goal

pub loop-index-init : goal.loop-index-init
loop-index-init c = record {
  seen = c.of_none-survey.ensures.survey c.args.most c.args.points.now;
  few = omega (arith, c.of_none-survey.ensures.none);
}

pub loop-index-preserved : goal.loop-index-preserved
loop-index-preserved c =
    let points = c.args.points.now in
    let i = c.loop-index.index in
    let d : Point = Scaled (pos 0) in
    let place : i ≡ i + 1 - 1 = omega arith in
    record {
      seen = c.with-survey.ensures.survey (drop (i + 1) points) points
          (subst (λ (k : ℕ). Surveys c.args.most c.loop-index.survey k (get_or points i d ∷ drop (i + 1) points) points) place (next_point c.args.most c.loop-index.survey points i d c.loop-index-test.true c.loop-index.invariant.seen));
      few = omega (arith, c.with-survey.ensures.few);
    }
