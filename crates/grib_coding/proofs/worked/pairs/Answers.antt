use Rattle.grib_coding.proofs.Pairs.{pair_of-number}
use Rattle.grib_coding.proofs.worked.pairs.Goals as goal

pub returns : goal.returns
returns c first second = pair_of-number first second
