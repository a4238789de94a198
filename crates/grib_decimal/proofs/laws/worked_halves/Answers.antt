use Rattle.std.proofs.Common.{refl}
use Rattle.std.specs.Fmt.{digits}
use Rattle.grib_decimal.proofs.laws.worked_halves.Goals as goal

pub returns-clause-down : goal.returns-clause-down
unfolding digits
returns-clause-down c = refl

pub returns-clause-up : goal.returns-clause-up
unfolding digits
returns-clause-up c = refl

pub returns-clause-zero : goal.returns-clause-zero
unfolding digits
returns-clause-zero c = refl

pub returns-clause-negative : goal.returns-clause-negative
unfolding digits
returns-clause-negative c = refl
