use Rattle.std.proofs.Common.{arith}
use Rattle.grib_simple_values.proofs.Skipped.{skipped}
use Rattle.grib_simple_values.proofs.writing.NumberWriterKeeper.keep_within.Goals as goal

pub returns-in_default : goal.returns-in_default
returns-in_default c = record {
  kept = skipped c.args.self c.args.point c.in_default.not-Scaled;
  room = omega arith;
}
