use Rattle.grib_rescan.proofs.Within.{same_longitude}
use Rattle.grib_rescan.proofs.laws.what_goes_round.Goals as goal

pub returns : goal.returns
returns c = same_longitude
