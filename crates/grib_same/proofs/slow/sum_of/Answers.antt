use Rattle.std.proofs.Common.{◌^◌, pos, ◌*ℤ◌, to_z-of_z, ◌∙◌}
use Rattle.grib_same.proofs.Wholes.{turned}
use Rattle.grib_same.proofs.slow.sum_of.Goals as goal

pub returns-in_ok-whole : goal.returns-in_ok-whole
returns-in_ok-whole c = rw (to_z-of_z c.ranges.a, to_z-of_z c.ranges.b) at c.in_ok-whole.ensures

pub returns-in_ok-turned : goal.returns-in_ok-turned
returns-in_ok-turned c =
    let sum = rw (to_z-of_z c.ranges.a, to_z-of_z c.ranges.b) at c.in_ok-turned.ensures in
    sum ∙ turned (c.args.b *ℤ pos (2 ^ c.args.b_twos)) (c.args.a *ℤ pos (2 ^ c.args.a_twos))
