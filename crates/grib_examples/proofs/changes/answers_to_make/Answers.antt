-- The clauses compute, once the digits of numbers and what packing writes do.
use Rattle.std.proofs.Common.{refl}
use Rattle.std.specs.Fmt.{digits}
use Rattle.grib_packed.specs.Written.{packed}
use Rattle.grib_synthetic.specs.Made.{made}
use Rattle.grib_examples.proofs.changes.answers_to_make.Goals as goal

pub returns-clause-simple_note : goal.returns-clause-simple_note
unfolding digits packed made
returns-clause-simple_note c = refl

pub returns-clause-simple_octets : goal.returns-clause-simple_octets
unfolding digits packed made
returns-clause-simple_octets c = refl

pub returns-clause-simple_values : goal.returns-clause-simple_values
unfolding digits packed made
returns-clause-simple_values c = refl

pub returns-clause-complex_octets : goal.returns-clause-complex_octets
unfolding digits packed made
returns-clause-complex_octets c = refl

pub returns-clause-complex_values : goal.returns-clause-complex_values
unfolding digits packed made
returns-clause-complex_values c = refl
