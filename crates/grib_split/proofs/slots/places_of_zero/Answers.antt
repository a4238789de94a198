use Rattle.std.proofs.Common.{arith}
use Rattle.std.specs.Int.{w8}
use Rattle.grib_split.proofs.Lanes.{eq_unset}
use Rattle.grib_split.proofs.slots.places_of_zero.Goals as goal

pub returns : goal.returns
returns c place within unset = let e = eq_unset w8 c.args.marks.now 0 place c.told-marks within unset in omega (arith, e)
