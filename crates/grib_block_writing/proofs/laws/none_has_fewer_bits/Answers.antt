use Rattle.grib_block_writing.proofs.Chosen.{chosen-least}
use Rattle.grib_block_writing.proofs.laws.none_has_fewer_bits.Goals as goal

pub returns : goal.returns
returns c coding skip codes choice is = chosen-least coding skip codes choice is
