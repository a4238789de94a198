-- What repacking is asked and may answer.
use Rattle.std.specs.Prelude.{◌≡◌, Option, Some}
use Rattle.grib_repack.specs.Repacked as misfits
use Rattle.grib_repack.specs.Repacked.{RepackMisfit}
use Rattle.grib_repack.specs.declared.fault.RepackFault.{RepackFault}
use Rattle.grib_repack.specs.declared.fault.RepackFault.TheVariants.{SecondaryMissing, OutOfRange, DifferenceRange, OutputTooLong, Memory}

-- the first misfit; where there is no memory, nothing is said of it
abbrev pub IsRepackFault : Option RepackMisfit → RepackFault → Type 0
IsRepackFault expected (SecondaryMissing field point) = expected ≡ Some (misfits.SecondaryMissing field point)
IsRepackFault expected (OutOfRange field point) = expected ≡ Some (misfits.OutOfRange field point)
IsRepackFault expected (DifferenceRange field) = expected ≡ Some (misfits.DifferenceRange field)
IsRepackFault expected (OutputTooLong length) = expected ≡ Some (misfits.OutputTooLong length)
IsRepackFault expected Memory = Unit {0}
