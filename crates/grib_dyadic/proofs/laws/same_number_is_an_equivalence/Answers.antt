use Rattle.grib_dyadic.proofs.Numbers.{SameNumber_trans}
use Rattle.grib_dyadic.proofs.laws.same_number_is_an_equivalence.Goals as goal

pub returns-clause-transitive : goal.returns-clause-transitive
returns-clause-transitive c = SameNumber_trans
