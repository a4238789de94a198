use Rattle.grib_same.proofs.Decisions.{alike_decides, units_decide}
use Rattle.grib_same.proofs.quick.Quick.of.Goals as goal

pub returns-then-is : goal.returns-then-is
returns-then-is c =
    let e = c.is.ensures in
    alike_decides c.args.left.now c.args.right.now c.of-left_side.result c.of-right_side.result c.plain.result.origin c.plain.result.stride c.plain-then-is.result.origin c.plain-then-is.result.stride
    c.of-left_side.ensures c.of-right_side.ensures (e.mantissa c.if-is.true) (e.exponent c.if-is.true) (e.e_is c.if-is.true) (e.d_is c.if-is.true)
    c.plain.ensures.origin c.plain.ensures.stride c.plain-then-is.ensures.origin c.plain-then-is.ensures.stride

pub returns : goal.returns
returns c =
    units_decide c.args.left.now c.args.right.now c.of-left_side.result c.of-right_side.result c.of-level.result
    c.in_ok-left_line.left_line.origin c.in_ok-left_line.left_line.stride c.in_ok-right_line.right_line.origin c.in_ok-right_line.right_line.stride
    c.of-left_side.ensures c.of-right_side.ensures c.of-level.ensures.left c.of-level.ensures.right c.in_ok-left_line.ensures c.in_ok-right_line.ensures
