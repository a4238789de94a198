-- The clauses compute, once the digits of numbers and what packing writes do.
use Rattle.std.proofs.Common.{refl}
use Rattle.std.specs.Fmt.{digits}
use Rattle.grib_packed.specs.Written.{packed}
use Rattle.grib_examples.proofs.changes.answers_in_groups.Goals as goal

pub returns-clause-three_bits : goal.returns-clause-three_bits
unfolding digits packed
returns-clause-three_bits c = refl

pub returns-clause-four_bits : goal.returns-clause-four_bits
unfolding digits packed
returns-clause-four_bits c = refl
