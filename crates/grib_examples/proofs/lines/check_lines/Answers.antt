-- The clauses compute, once the digits of numbers do.
use Rattle.std.proofs.Common.{refl}
use Rattle.std.specs.Fmt.{digits}
use Rattle.grib_examples.proofs.lines.check_lines.Goals as goal

pub returns-clause-message : goal.returns-clause-message
unfolding digits
returns-clause-message c = refl

pub returns-clause-total : goal.returns-clause-total
unfolding digits
returns-clause-total c = refl

pub returns-clause-first : goal.returns-clause-first
unfolding digits
returns-clause-first c = refl

pub returns-clause-second : goal.returns-clause-second
unfolding digits
returns-clause-second c = refl

pub returns-clause-total_of_two : goal.returns-clause-total_of_two
unfolding digits
returns-clause-total_of_two c = refl
