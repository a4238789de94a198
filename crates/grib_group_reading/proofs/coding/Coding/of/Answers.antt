use Rattle.std.proofs.Common.{◌<◌, arith}
use Rattle.grib_group_reading.proofs.Coded.{top_at_least}
use Rattle.grib_group_reading.proofs.coding.Coding.of.Goals as goal

pub overflow_sub-result-then-layout-eq2 : goal.overflow_sub-result-then-layout-eq2
overflow_sub-result-then-layout-eq2 c =
    let some : 0 < c.args.group.width = omega arith in
    top_at_least c.args.group.width c.requires.width some
