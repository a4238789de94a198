use Rattle.grib_block_writing.proofs.Least.{least_run}
use Rattle.grib_block_writing.proofs.laws.no_pieces_have_fewer_bits.Goals as goal

pub returns : goal.returns
returns c coding blocks runs ends all = (least_run coding blocks runs ends all).0
