use Rattle.std.proofs.Common.{refl}
use Rattle.grib_block_feeding.proofs.Pieces.{bit_there}
use Rattle.grib_block_feeding.proofs.reading.bit_at.Goals as goal

pub returns : goal.returns
returns c = bit_there c.args.octets.now c.args.place c.get_bits.result _ c.requires c.get_bits.ensures refl
