use Rattle.grib_dyadic.proofs.Values.{Same_sym, Same_trans}
use Rattle.grib_dyadic.proofs.laws.same_is_an_equivalence.Goals as goal

pub returns-clause-symmetric : goal.returns-clause-symmetric
returns-clause-symmetric c = Same_sym

pub returns-clause-transitive : goal.returns-clause-transitive
returns-clause-transitive c = Same_trans
