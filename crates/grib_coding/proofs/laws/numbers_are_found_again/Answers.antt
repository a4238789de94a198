use Rattle.grib_coding.proofs.Told.{found_again}
use Rattle.grib_coding.proofs.laws.numbers_are_found_again.Goals as goal

pub returns : goal.returns
returns cx c entries numbers h = found_again c entries numbers h
