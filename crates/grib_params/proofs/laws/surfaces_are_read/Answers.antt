-- The clauses compute, once the records of `csv` do.
use Rattle.std.proofs.Common.{refl}
use Rattle.csv.proofs.OnLiterals.{csv_on_literals}
use Rattle.grib_params.proofs.laws.surfaces_are_read.Goals as goal

pub returns-clause-plain : goal.returns-clause-plain
unfolding csv_on_literals
returns-clause-plain c = refl

pub returns-clause-every : goal.returns-clause-every
unfolding csv_on_literals
returns-clause-every c = refl

pub returns-clause-large : goal.returns-clause-large
unfolding csv_on_literals
returns-clause-large c = refl

pub returns-clause-none : goal.returns-clause-none
unfolding csv_on_literals
returns-clause-none c = refl
