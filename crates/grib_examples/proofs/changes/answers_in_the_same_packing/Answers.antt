-- The clauses compute, once the digits of numbers and what packing writes do.
use Rattle.std.proofs.Common.{refl}
use Rattle.std.specs.Fmt.{digits}
use Rattle.grib_packed.specs.Written.{packed}
use Rattle.grib_examples.proofs.changes.answers_in_the_same_packing.Goals as goal

pub returns-clause-simple : goal.returns-clause-simple
unfolding digits packed
returns-clause-simple c = refl

pub returns-clause-marks : goal.returns-clause-marks
unfolding digits packed
returns-clause-marks c = refl

pub returns-clause-differences : goal.returns-clause-differences
unfolding digits packed
returns-clause-differences c = refl

pub returns-clause-two : goal.returns-clause-two
unfolding digits packed
returns-clause-two c = refl
