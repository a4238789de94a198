use Rattle.std.proofs.Common.{arith}
use Rattle.std.proofs.lemmas.Int.{ints, clamps}
use Rattle.grib_same.proofs.side.Level.of.Goals as goal

pub invariant_of-result : goal.invariant_of-result
invariant_of-result c = record { binary_small = omega (arith, ints, clamps); decimal_small = omega (arith, ints, clamps) }

pub returns-clause-left : goal.returns-clause-left
returns-clause-left c = record { reference = omega (arith, ints, clamps); step = omega (arith, ints, clamps); tens = omega (arith, ints, clamps) }

pub returns-clause-right : goal.returns-clause-right
returns-clause-right c = record { reference = omega (arith, ints, clamps); step = omega (arith, ints, clamps); tens = omega (arith, ints, clamps) }
