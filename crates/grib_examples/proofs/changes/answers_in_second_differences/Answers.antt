-- The clauses compute, once the digits of numbers and what packing writes do.
use Rattle.std.proofs.Common.{refl}
use Rattle.std.specs.Fmt.{digits}
use Rattle.grib_packed.specs.Written.{packed}
use Rattle.grib_examples.proofs.changes.answers_in_second_differences.Goals as goal

pub returns : goal.returns
unfolding digits packed
returns c = refl
