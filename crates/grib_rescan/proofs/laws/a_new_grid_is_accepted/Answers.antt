use Rattle.grib_rescan.proofs.Accepted.{accepted_under, rescanned, cropped}
use Rattle.grib_rescan.proofs.laws.a_new_grid_is_accepted.Goals as goal

pub returns-clause-accepted : goal.returns-clause-accepted
returns-clause-accepted c = accepted_under

pub returns-clause-rescanned : goal.returns-clause-rescanned
returns-clause-rescanned c = rescanned

pub returns-clause-cropped : goal.returns-clause-cropped
returns-clause-cropped c = cropped
