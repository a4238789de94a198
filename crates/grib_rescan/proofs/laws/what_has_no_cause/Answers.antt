use Rattle.grib_rescan.proofs.Uncaused.{has_template, has_points, can_be_rescanned, can_be_cut, has_within}
use Rattle.grib_rescan.proofs.laws.what_has_no_cause.Goals as goal

pub returns-clause-template : goal.returns-clause-template
returns-clause-template c = has_template

pub returns-clause-points : goal.returns-clause-points
returns-clause-points c = has_points

pub returns-clause-rescanned : goal.returns-clause-rescanned
returns-clause-rescanned c = can_be_rescanned

pub returns-clause-cropped : goal.returns-clause-cropped
returns-clause-cropped c = can_be_cut

pub returns-clause-within : goal.returns-clause-within
returns-clause-within c = has_within
