use Rattle.std.proofs.Common.{◌≡◌, ◌≤◌, List, length, ap, subst, arith, pos}
use Rattle.std.proofs.lemmas.List.{get_or_default}
use Rattle.grib_base.specs.declared.limits.TheConstants.{MOST_POINTS}
use Rattle.grib_packing.specs.declared.column.Point.{Point}
use Rattle.grib_packing.specs.declared.column.Point.TheVariants.{Scaled, Missing}
use Rattle.grib_decimal.specs.Summary.{IsTally, SumUp}
use Rattle.grib_decimal.proofs.summing.summary.Goals as goal

few_in : (points items : List Point) → items ≡ points → length points ≤ MOST_POINTS → length items ≤ MOST_POINTS
few_in points items is few = omega (arith, ap length is, few)

summed : (c : goal.After-summary) → SumUp c.args.column.now.points c.summary.result
summed c =
    let points = c.as_slice-points.result.now in
    let l = c.loop-index in
    let end : l.index ≡ length points = omega arith in
    let whole = subst (λ k. IsTally points k l.tally) end l.invariant in
    subst (λ ps. SumUp ps c.summary.result) c.as_slice-points.ensures
    (c.summary.ensures points (few_in c.args.column.now.points points c.as_slice-points.ensures c.requires) whole)

pub loop-index-init : goal.loop-index-init
loop-index-init c = c.none-tally.ensures c.as_slice-points.result.now

pub loop-index-preserved : goal.loop-index-preserved
loop-index-preserved c =
    let l = c.loop-index in
    let points = c.as_slice-points.result.now in
    c.with-tally.ensures points l.index (few_in c.args.column.now.points points c.as_slice-points.ensures c.requires) c.loop-index-test.true
    (get_or_default points l.index Missing (Scaled (pos 0)) c.loop-index-test.true) l.invariant

pub returns-clause-summary : goal.returns-clause-summary
returns-clause-summary c = (summed c).summary_is

pub returns-clause-extremes : goal.returns-clause-extremes
returns-clause-extremes c = (summed c).extremes_are
