use Rattle.std.proofs.Common.{length, refl}
use Rattle.grib_decimal.proofs.Orders.{so_far_values, so_far_none, so_far_some}
use Rattle.grib_decimal.proofs.bounds.extremes.Goals as goal

pub returns-clause-none : goal.returns-clause-none
returns-clause-none c = so_far_none c.args.column.now.points c.summary.result.extremes c.summary.ensures.extremes

pub returns-clause-some : goal.returns-clause-some
returns-clause-some c = so_far_some c.args.column.now.points c.summary.result.extremes c.summary.ensures.extremes

pub returns-clause-values : goal.returns-clause-values
returns-clause-values c = so_far_values c.args.column.now.points (length c.args.column.now.points) c.summary.result.extremes refl c.summary.ensures.extremes
