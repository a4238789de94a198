use Rattle.std.proofs.Common.{to_z-of_z}
use Rattle.grib_same.specs.Wholes.{value}
use Rattle.grib_same.proofs.Decisions.{wholes_decide}
use Rattle.grib_same.proofs.slow.is_same_value.Goals as goal

pub returns : goal.returns
returns c =
    let left = rw (to_z-of_z c.ranges.x) at c.in_ok-left_whole.ensures in
    let right = rw (to_z-of_z c.ranges.y) at c.in_ok-right_whole.ensures in
    wholes_decide c.args.left.now c.args.right.now c.of-left_side.result c.of-right_side.result c.of-level.result c.args.x c.args.y (value c.in_ok-left_whole.left_whole) (value c.in_ok-right_whole.right_whole) c.is-same.result
    c.of-left_side.ensures c.of-right_side.ensures c.of-level.ensures.left c.of-level.ensures.right left right c.is-same.ensures
