-- The clauses compute, once the digits of numbers do.
use Rattle.std.proofs.Common.{refl}
use Rattle.std.specs.Fmt.{digits}
use Rattle.grib_examples.proofs.lines.dump_lines.Goals as goal

pub returns-clause-field : goal.returns-clause-field
unfolding digits
returns-clause-field c = refl

pub returns-clause-reference : goal.returns-clause-reference
unfolding digits
returns-clause-reference c = refl

pub returns-clause-points : goal.returns-clause-points
unfolding digits
returns-clause-points c = refl
