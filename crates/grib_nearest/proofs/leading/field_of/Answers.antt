use Rattle.std.proofs.Common.{arith}
use Rattle.std.proofs.lemmas.Int.{ints, clamps}
use Rattle.grib_nearest.proofs.leading.field_of.Goals as goal

pub returns : goal.returns
returns c = omega (arith, ints, clamps)
