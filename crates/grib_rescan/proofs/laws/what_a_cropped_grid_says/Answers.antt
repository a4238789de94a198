use Rattle.grib_rescan.proofs.Kept.{box-points, box-ni, box-nj, box-la1, box-lo1, box-la2, box-lo2, box-elsewhere}
use Rattle.grib_rescan.proofs.laws.what_a_cropped_grid_says.Goals as goal

pub returns-clause-points : goal.returns-clause-points
returns-clause-points c = box-points

pub returns-clause-ni : goal.returns-clause-ni
returns-clause-ni c = box-ni

pub returns-clause-nj : goal.returns-clause-nj
returns-clause-nj c = box-nj

pub returns-clause-la1 : goal.returns-clause-la1
returns-clause-la1 c = box-la1

pub returns-clause-lo1 : goal.returns-clause-lo1
returns-clause-lo1 c = box-lo1

pub returns-clause-la2 : goal.returns-clause-la2
returns-clause-la2 c = box-la2

pub returns-clause-lo2 : goal.returns-clause-lo2
returns-clause-lo2 c = box-lo2

pub returns-clause-others : goal.returns-clause-others
returns-clause-others c = box-elsewhere
