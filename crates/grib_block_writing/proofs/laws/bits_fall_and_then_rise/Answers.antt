use Rattle.grib_block_writing.proofs.Walk.{convex}
use Rattle.grib_block_writing.proofs.laws.bits_fall_and_then_rise.Goals as goal

pub returns : goal.returns
returns c kept k codes = convex kept k codes
