use Rattle.grib_fewest.proofs.ReadBack.{all_read}
use Rattle.grib_fewest.proofs.laws.such_a_list_is_read.Goals as goal

pub returns : goal.returns
returns c coding numbers items rest fits unpadded within tells readable = all_read coding numbers items rest fits unpadded within tells readable
