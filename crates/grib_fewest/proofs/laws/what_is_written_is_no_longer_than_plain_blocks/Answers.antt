use Rattle.grib_fewest.proofs.Ours.{no_longer}
use Rattle.grib_fewest.proofs.laws.what_is_written_is_no_longer_than_plain_blocks.Goals as goal

pub returns : goal.returns
returns c coding numbers fits within = no_longer coding numbers fits within
