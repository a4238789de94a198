use Rattle.std.proofs.Common.{◌^◌, pos, to_z-of_z, arith}
use Rattle.grib_same.proofs.Lines.{bit_64, some_product}
use Rattle.grib_same.proofs.line.shifted_tens.Goals as goal

pub returns : goal.returns
returns c = some_product _ c.checked_mul.result _ _ c.args.number (pos (2 ^ c.args.twos)) (to_z-of_z c.ranges.number) (bit_64 c.args.twos (omega arith)) c.checked_mul.ensures
