use Rattle.grib_block_reading.proofs.Counted.{all_told}
use Rattle.grib_block_reading.proofs.laws.each_value_is_told.Goals as goal

pub returns : goal.returns
returns cx c count bits fits none = all_told c count bits fits none
