-- The clauses compute, once the records of `csv` do.
use Rattle.std.proofs.Common.{refl}
use Rattle.csv.proofs.OnLiterals.{csv_on_literals}
use Rattle.grib_params.proofs.laws.tables_are_read.Goals as goal

pub returns-clause-plain : goal.returns-clause-plain
unfolding csv_on_literals
returns-clause-plain c = refl

pub returns-clause-unended : goal.returns-clause-unended
unfolding csv_on_literals
returns-clause-unended c = refl

pub returns-clause-returned : goal.returns-clause-returned
unfolding csv_on_literals
returns-clause-returned c = refl

pub returns-clause-marked : goal.returns-clause-marked
unfolding csv_on_literals
returns-clause-marked c = refl

pub returns-clause-quoted : goal.returns-clause-quoted
unfolding csv_on_literals
returns-clause-quoted c = refl

pub returns-clause-spaced : goal.returns-clause-spaced
unfolding csv_on_literals
returns-clause-spaced c = refl

pub returns-clause-none : goal.returns-clause-none
unfolding csv_on_literals
returns-clause-none c = refl
