-- What rescanning and cropping may answer.
use Rattle.std.specs.Prelude.{◌≡◌, Option, Some}
use Rattle.grib_packing.specs.Misfits as packing
use Rattle.grib_rescan.specs.declared.cause.GridCause.TheVariants as cause
use Rattle.grib_reorder.specs.Rescanned.{EditMisfit, OfGrid, OfColumn, TooLong}
use Rattle.grib_reorder.specs.declared.fault.RescanFault.{RescanFault}
use Rattle.grib_reorder.specs.declared.fault.RescanFault.TheVariants.{GridKind, ScanMode, OutsideBox, Increments, OutOfRange, DifferenceRange, OutputTooLong, Memory}

-- the first misfit; where there is no memory, nothing is said of it
abbrev pub IsRescanFault : Option EditMisfit → RescanFault → Type 0
IsRescanFault expected (GridKind field) = expected ≡ Some (OfGrid field cause.GridKind)
IsRescanFault expected (ScanMode field) = expected ≡ Some (OfGrid field cause.ScanMode)
IsRescanFault expected (OutsideBox field) = expected ≡ Some (OfGrid field cause.OutsideBox)
IsRescanFault expected (Increments field) = expected ≡ Some (OfGrid field cause.Increments)
IsRescanFault expected (OutOfRange field point) = expected ≡ Some (OfColumn field (packing.OutOfRange point))
IsRescanFault expected (DifferenceRange field) = expected ≡ Some (OfColumn field packing.DifferenceRange)
IsRescanFault expected (OutputTooLong length) = expected ≡ Some (TooLong length)
IsRescanFault expected Memory = Unit {0}
