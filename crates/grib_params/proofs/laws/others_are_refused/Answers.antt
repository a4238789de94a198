-- The clauses compute, once the records of `csv` do.
use Rattle.std.proofs.Common.{refl}
use Rattle.csv.proofs.OnLiterals.{csv_on_literals}
use Rattle.grib_params.proofs.laws.others_are_refused.Goals as goal

pub returns-clause-repeated : goal.returns-clause-repeated
unfolding csv_on_literals
returns-clause-repeated c = refl

pub returns-clause-repeated_all : goal.returns-clause-repeated_all
unfolding csv_on_literals
returns-clause-repeated_all c = refl

pub returns-clause-repeated_badly : goal.returns-clause-repeated_badly
unfolding csv_on_literals
returns-clause-repeated_badly c = refl

pub returns-clause-large : goal.returns-clause-large
unfolding csv_on_literals
returns-clause-large c = refl

pub returns-clause-zeros : goal.returns-clause-zeros
unfolding csv_on_literals
returns-clause-zeros c = refl

pub returns-clause-short : goal.returns-clause-short
unfolding csv_on_literals
returns-clause-short c = refl

pub returns-clause-long : goal.returns-clause-long
unfolding csv_on_literals
returns-clause-long c = refl

pub returns-clause-star : goal.returns-clause-star
unfolding csv_on_literals
returns-clause-star c = refl

pub returns-clause-space : goal.returns-clause-space
unfolding csv_on_literals
returns-clause-space c = refl

pub returns-clause-sign : goal.returns-clause-sign
unfolding csv_on_literals
returns-clause-sign c = refl

pub returns-clause-none : goal.returns-clause-none
unfolding csv_on_literals
returns-clause-none c = refl

pub returns-clause-empty_lines : goal.returns-clause-empty_lines
unfolding csv_on_literals
returns-clause-empty_lines c = refl

pub returns-clause-last : goal.returns-clause-last
unfolding csv_on_literals
returns-clause-last c = refl
