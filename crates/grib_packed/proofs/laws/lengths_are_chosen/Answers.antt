use Rattle.std.proofs.Common.{length, arith}
use Rattle.grib_packed.proofs.Choosing.{within_chosen}
use Rattle.grib_packed.proofs.laws.lengths_are_chosen.Goals as goal

pub returns : goal.returns
returns c header width codes = within_chosen (length codes) header width codes (omega arith)
