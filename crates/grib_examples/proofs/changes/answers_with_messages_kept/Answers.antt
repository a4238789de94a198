-- The clauses compute, once the digits of numbers and what packing writes do.
use Rattle.std.proofs.Common.{refl}
use Rattle.std.specs.Fmt.{digits}
use Rattle.grib_packed.specs.Written.{packed}
use Rattle.grib_examples.proofs.changes.answers_with_messages_kept.Goals as goal

pub returns-clause-negative : goal.returns-clause-negative
unfolding digits packed
returns-clause-negative c = refl

pub returns-clause-secondary : goal.returns-clause-secondary
unfolding digits packed
returns-clause-secondary c = refl

pub returns-clause-second : goal.returns-clause-second
unfolding digits packed
returns-clause-second c = refl
