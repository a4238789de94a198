use Rattle.std.proofs.Common.{sym, ◌∙◌, pos, arith}
use Rattle.grib_packing.specs.declared.column.Point.TheVariants.{Scaled}
use Rattle.grib_same.specs.Scales.{meant_by}
use Rattle.grib_same.proofs.Differences.{from_same}
use Rattle.grib_same.proofs.quick.Quick.first_difference.Goals as goal

pub loop-i-preserved : goal.loop-i-preserved
loop-i-preserved c f g is =
    c.loop-i.invariant f g is
    ∙ from_same (meant_by f) (meant_by g) c.args.left.now c.args.right.now c.loop-i.i (Scaled (pos 0)) c.loop-i-test.true (omega arith) (sym (c.is_same_point.ensures f g is) ∙ c.if-not-is_same_point.false)
