-- The clause computes, once the digits of numbers do.
use Rattle.std.proofs.Common.{refl}
use Rattle.std.specs.Fmt.{digits}
use Rattle.grib_examples.proofs.answers.answer_to_dump_with_decimals.Goals as goal

pub returns-clause-three : goal.returns-clause-three
unfolding digits
returns-clause-three c = refl
