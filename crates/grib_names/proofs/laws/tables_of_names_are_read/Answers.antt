-- The clauses compute, once the records of `csv` do.
use Rattle.std.proofs.Common.{refl}
use Rattle.csv.proofs.OnLiterals.{csv_on_literals}
use Rattle.grib_names.proofs.laws.tables_of_names_are_read.Goals as goal

pub returns-clause-plain : goal.returns-clause-plain
unfolding csv_on_literals
returns-clause-plain c = refl

pub returns-clause-sorted : goal.returns-clause-sorted
unfolding csv_on_literals
returns-clause-sorted c = refl

pub returns-clause-unended : goal.returns-clause-unended
unfolding csv_on_literals
returns-clause-unended c = refl

pub returns-clause-quoted : goal.returns-clause-quoted
unfolding csv_on_literals
returns-clause-quoted c = refl

pub returns-clause-signs : goal.returns-clause-signs
unfolding csv_on_literals
returns-clause-signs c = refl

pub returns-clause-none : goal.returns-clause-none
unfolding csv_on_literals
returns-clause-none c = refl
