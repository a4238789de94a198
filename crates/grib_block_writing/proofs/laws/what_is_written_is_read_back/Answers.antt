use Rattle.grib_block_writing.proofs.Stream.{read_back}
use Rattle.grib_block_writing.proofs.laws.what_is_written_is_read_back.Goals as goal

pub returns : goal.returns
returns c coding numbers rest fits unpadded within = read_back coding numbers rest fits unpadded within
