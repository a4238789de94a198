-- The clauses compute, once the records of `csv` do.
use Rattle.std.proofs.Common.{refl}
use Rattle.csv.proofs.OnLiterals.{csv_on_literals}
use Rattle.grib_params.proofs.laws.other_surfaces_are_refused.Goals as goal

pub returns-clause-short : goal.returns-clause-short
unfolding csv_on_literals
returns-clause-short c = refl

pub returns-clause-long : goal.returns-clause-long
unfolding csv_on_literals
returns-clause-long c = refl

pub returns-clause-parameters : goal.returns-clause-parameters
unfolding csv_on_literals
returns-clause-parameters c = refl

pub returns-clause-star : goal.returns-clause-star
unfolding csv_on_literals
returns-clause-star c = refl

pub returns-clause-missing : goal.returns-clause-missing
unfolding csv_on_literals
returns-clause-missing c = refl

pub returns-clause-level : goal.returns-clause-level
unfolding csv_on_literals
returns-clause-level c = refl

pub returns-clause-value : goal.returns-clause-value
unfolding csv_on_literals
returns-clause-value c = refl

pub returns-clause-repeated : goal.returns-clause-repeated
unfolding csv_on_literals
returns-clause-repeated c = refl

pub returns-clause-others : goal.returns-clause-others
unfolding csv_on_literals
returns-clause-others c = refl
