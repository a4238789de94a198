use Rattle.std.proofs.Common.{rules}
use Rattle.grib_block_reading.proofs.numbers.point.Goals as goal

pub returns : goal.returns
returns c = search rules
