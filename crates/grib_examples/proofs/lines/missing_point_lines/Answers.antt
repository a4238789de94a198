-- The clauses compute, once the digits of numbers do.
use Rattle.std.proofs.Common.{refl}
use Rattle.std.specs.Fmt.{digits}
use Rattle.grib_examples.proofs.lines.missing_point_lines.Goals as goal

pub returns : goal.returns
unfolding digits
returns c = record { points = refl }
