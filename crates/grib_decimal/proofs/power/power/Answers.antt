use Rattle.std.proofs.Common.{◌<ℤ◌, pos, arith}
use Rattle.std.proofs.lemmas.Int.{ints}
use Rattle.grib_decimal.proofs.Powers.{many_twos, many_tens}
use Rattle.grib_decimal.proofs.power.power.Goals as goal
use Rattle.grib_decimal.proofs.power.power.Goals.{then-twos-gt125-via-then-twos-gt125, then-twos-gt125-via-else-twos-gt125+then-tens-gt37}

pub returns-then-twos-gt125 : goal.returns-then-twos-gt125
returns-then-twos-gt125 c less =
    elim c.then-twos-gt125.branch [
      | then-twos-gt125-via-then-twos-gt125 w ↦
          let many : pos 125 <ℤ c.args.twos = omega (arith, ints) in
          omega (arith, many_twos c.args.twos c.args.tens many)
      | then-twos-gt125-via-else-twos-gt125+then-tens-gt37 w ↦
          let many : pos 37 <ℤ c.args.tens = omega (arith, ints) in
          omega (arith, many_tens c.args.twos c.args.tens many)
    ]
