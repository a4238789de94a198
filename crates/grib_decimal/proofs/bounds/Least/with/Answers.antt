use Rattle.std.proofs.Common.{◌<ℤ◌, to_z-of_z, arith}
use Rattle.std.proofs.lemmas.Int.{ints}
use Rattle.grib_decimal.proofs.Orders.{least_moved, number_kept}
use Rattle.grib_decimal.proofs.bounds.Least.with.Goals as goal

pub returns-then-number-self : goal.returns-then-number-self
returns-then-number-self c points n e here old =
    let less : c.args.number <ℤ c.args.self.number = omega (arith, ints) in
    rw (to_z-of_z c.ranges.number) (least_moved points n c.args.self.number c.args.number _ c.args.self.place c.args.place e less here old)

pub returns-else-number-self : goal.returns-else-number-self
returns-else-number-self c points n e here old =
    number_kept _ _ points n c.args.self.number c.args.number c.args.self.place (omega (arith, ints)) here old
