use Rattle.std.proofs.Common.{◌≡◌, ◌^◌, pos, FitsSigned, to_z-of_z, arith}
use Rattle.std.specs.Int.{w64}
use Rattle.std.proofs.lemmas.Int.{ints}
use Rattle.grib_same.proofs.Lines.{few_tens}
use Rattle.grib_same.proofs.line.power_of_ten.Goals as goal

pub pow-requires : goal.pow-requires
pow-requires c = let few = few_tens c.args.tens (omega arith) in omega (arith, ints, few)

pub returns-clause-small : goal.returns-clause-small
returns-clause-small c =
    let few = few_tens c.args.tens (omega arith) in
    let fits : FitsSigned w64 (pos (10 ^ c.args.tens)) = omega (arith, ints, few) in
    let is : c.pow.result ≡ pos (10 ^ c.args.tens) = c.pow.ensures in
    rw (is, to_z-of_z fits) few
