use Rattle.std.proofs.Common.{arith}
use Rattle.std.proofs.lemmas.Grind.{common_steps}
use Rattle.grib_dyadic.specs.Reference.{ibm, SameNumber}
use Rattle.grib_dyadic.proofs.Halvings.{reduced-ibm}
use Rattle.grib_dyadic.proofs.dyadic.Dyadic.from_ibm.Goals as goal

pub returns-clause-value : goal.returns-clause-value
returns-clause-value c =
    let same : SameNumber c.new.result (ibm c.args.word) = grind (arith, common_steps) in
    reduced-ibm c.args.word c.new.result c.new.ensures.reduced same
