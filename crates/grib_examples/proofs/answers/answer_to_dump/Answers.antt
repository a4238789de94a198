-- The clauses compute, once the digits of numbers do.
use Rattle.std.proofs.Common.{refl}
use Rattle.std.specs.Fmt.{digits}
use Rattle.grib_examples.proofs.answers.answer_to_dump.Goals as goal

pub returns-clause-plain : goal.returns-clause-plain
unfolding digits
returns-clause-plain c = refl

pub returns-clause-no_bits : goal.returns-clause-no_bits
unfolding digits
returns-clause-no_bits c = refl

pub returns-clause-two_fields : goal.returns-clause-two_fields
unfolding digits
returns-clause-two_fields c = refl

pub returns-clause-differences : goal.returns-clause-differences
unfolding digits
returns-clause-differences c = refl

pub returns-clause-marks : goal.returns-clause-marks
unfolding digits
returns-clause-marks c = refl
