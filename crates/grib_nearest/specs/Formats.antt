-- The formats of the code.
use Rattle.std.specs.Float.Ieee.{Format as Ieee, binary32, binary64}
use Rattle.grib_nearest.specs.declared.format.Format.{Format}
use Rattle.grib_nearest.specs.declared.format.Format.TheVariants.{Binary32, Binary64}

abbrev pub format_of : Format → Ieee
format_of Binary32 = binary32
format_of Binary64 = binary64
