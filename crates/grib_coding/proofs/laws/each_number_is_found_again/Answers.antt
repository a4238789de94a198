use Rattle.grib_coding.proofs.Folds.{found_again}
use Rattle.grib_coding.proofs.laws.each_number_is_found_again.Goals as goal

pub returns : goal.returns
returns c most before number b n = found_again most before number b n
