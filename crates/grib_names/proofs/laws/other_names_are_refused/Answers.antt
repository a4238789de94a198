-- The clauses compute, once the records of `csv` do.
use Rattle.std.proofs.Common.{refl}
use Rattle.csv.proofs.OnLiterals.{csv_on_literals}
use Rattle.grib_names.proofs.laws.other_names_are_refused.Goals as goal

pub returns-clause-numbers : goal.returns-clause-numbers
unfolding csv_on_literals
returns-clause-numbers c = refl

pub returns-clause-name : goal.returns-clause-name
unfolding csv_on_literals
returns-clause-name c = refl

pub returns-clause-first : goal.returns-clause-first
unfolding csv_on_literals
returns-clause-first c = refl

pub returns-clause-badly : goal.returns-clause-badly
unfolding csv_on_literals
returns-clause-badly c = refl

pub returns-clause-large : goal.returns-clause-large
unfolding csv_on_literals
returns-clause-large c = refl

pub returns-clause-zeros : goal.returns-clause-zeros
unfolding csv_on_literals
returns-clause-zeros c = refl

pub returns-clause-star : goal.returns-clause-star
unfolding csv_on_literals
returns-clause-star c = refl

pub returns-clause-short : goal.returns-clause-short
unfolding csv_on_literals
returns-clause-short c = refl

pub returns-clause-unnamed : goal.returns-clause-unnamed
unfolding csv_on_literals
returns-clause-unnamed c = refl

pub returns-clause-space : goal.returns-clause-space
unfolding csv_on_literals
returns-clause-space c = refl

pub returns-clause-sign : goal.returns-clause-sign
unfolding csv_on_literals
returns-clause-sign c = refl

pub returns-clause-long : goal.returns-clause-long
unfolding csv_on_literals
returns-clause-long c = refl

pub returns-clause-header : goal.returns-clause-header
unfolding csv_on_literals
returns-clause-header c = refl
