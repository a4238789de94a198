use Rattle.grib_bits.specs.Octets.{octets}
use Rattle.grib_rescan.specs.Scanning.{scanning_of}
use Rattle.grib_rescan.proofs.Kept.{new-la1, new-lo1, new-la2, new-lo2, new-scanning, as_before}
use Rattle.grib_rescan.proofs.laws.what_a_rescanned_grid_says.Goals as goal

pub returns-clause-la1 : goal.returns-clause-la1
returns-clause-la1 c s long = let order = scanning_of (octets s 72 72) in new-la1 s long order.northward order.westward

pub returns-clause-lo1 : goal.returns-clause-lo1
returns-clause-lo1 c s long = let order = scanning_of (octets s 72 72) in new-lo1 s long order.northward order.westward

pub returns-clause-la2 : goal.returns-clause-la2
returns-clause-la2 c s long = let order = scanning_of (octets s 72 72) in new-la2 s long order.northward order.westward

pub returns-clause-lo2 : goal.returns-clause-lo2
returns-clause-lo2 c s long = let order = scanning_of (octets s 72 72) in new-lo2 s long order.northward order.westward

pub returns-clause-scanning : goal.returns-clause-scanning
returns-clause-scanning c s long = let order = scanning_of (octets s 72 72) in new-scanning s long order.northward order.westward

pub returns-clause-others : goal.returns-clause-others
returns-clause-others c s long = let order = scanning_of (octets s 72 72) in as_before s long order.northward order.westward
