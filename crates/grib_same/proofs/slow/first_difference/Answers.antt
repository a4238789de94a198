use Rattle.std.proofs.Common.{sym, ◌∙◌, pos, arith}
use Rattle.grib_packing.specs.declared.column.Point.TheVariants.{Scaled}
use Rattle.grib_same.specs.Scales.{meant_by}
use Rattle.grib_same.proofs.Differences.{from_same}
use Rattle.grib_same.proofs.slow.first_difference.Goals as goal

pub loop-i-preserved : goal.loop-i-preserved
loop-i-preserved c =
    c.loop-i.invariant
    ∙ from_same (meant_by c.args.left.now) (meant_by c.args.right.now) c.args.left_points.now c.args.right_points.now c.loop-i.i (Scaled (pos 0)) c.loop-i-test.true (omega arith) (sym c.in_ok-same.ensures ∙ c.if-not-same.false)
