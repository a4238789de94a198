use Rattle.grib2_grids.proofs.Readable.{writable}
use Rattle.grib2_grids.proofs.laws.what_is_read_can_be_written.Goals as goal

pub returns : goal.returns
returns c = λ value s is. writable value s is
