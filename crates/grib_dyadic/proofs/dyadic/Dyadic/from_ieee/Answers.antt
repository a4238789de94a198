use Rattle.std.proofs.Common.{arith}
use Rattle.std.proofs.lemmas.Grind.{common_steps}
use Rattle.grib_dyadic.specs.Reference.{ieee, IsFinite, SameNumber}
use Rattle.grib_dyadic.proofs.Halvings.{reduced-ieee}
use Rattle.grib_dyadic.proofs.dyadic.Dyadic.from_ieee.Goals as goal

pub returns-clause-value : goal.returns-clause-value
returns-clause-value c =
    let same : SameNumber c.new.result (ieee c.args.word) = grind (arith, common_steps) in
    let finite : IsFinite c.args.word = grind (arith, common_steps) in
    reduced-ieee c.args.word c.new.result (omega arith) finite c.new.ensures.reduced same
