use Rattle.std.proofs.Common.{to_z, of_z, to_z-of_z}
use Rattle.std.specs.Int.{w64}
use Rattle.grib_decimal.proofs.Powers.{bit_is}
use Rattle.grib_decimal.proofs.power.bit.Goals as goal

pub returns : goal.returns
returns c = bit_is c.args.shift (to_z w64 (of_z w64 c.args.shift)) (to_z-of_z c.ranges.shift) c.requires.low c.requires.high
