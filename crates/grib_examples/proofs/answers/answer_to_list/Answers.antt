-- The clauses compute, once the digits of numbers do.
use Rattle.std.proofs.Common.{refl}
use Rattle.std.specs.Fmt.{digits}
use Rattle.grib_examples.proofs.answers.answer_to_list.Goals as goal

pub returns : goal.returns
unfolding digits
returns c = refl
