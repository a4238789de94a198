-- The names of the losses of demotion, as a note prints them.
use Rattle.std.specs.Prelude.{ℕ, List, ◌++◌, codes, Option, Some, None}
use Rattle.std.specs.Fmt.{decimal}
use Rattle.grib_reasons.specs.Losses.{numbered}
use Rattle.grib_reasons.specs.declared.demotion.Demotion.{Demotion}
use Rattle.grib_reasons.specs.declared.demotion.Demotion.TheVariants.{Product, GridTemplate, Centre, Parameter, Level, TimeUnit, Process, Date, Interval, LocalUse, EarthShape, GridFlags, RowList, GridNumber, Coordinate, Reference, SecondaryMissing, OutOfRange, TooLong}

abbrev pub name_of : Demotion → List ℕ
name_of Product = codes "Product"
name_of GridTemplate = codes "GridTemplate"
name_of Centre = codes "Centre"
name_of Parameter = codes "Parameter"
name_of Level = codes "Level"
name_of TimeUnit = codes "TimeUnit"
name_of Process = codes "Process"
name_of Date = codes "Date"
name_of Interval = codes "Interval"
name_of LocalUse = codes "LocalUse"
name_of EarthShape = codes "EarthShape"
name_of GridFlags = codes "GridFlags"
name_of RowList = codes "RowList"
name_of (GridNumber octet) = codes "GridNumber"
name_of (Coordinate index) = codes "Coordinate"
name_of Reference = codes "Reference"
name_of (SecondaryMissing point) = codes "SecondaryMissing"
name_of (OutOfRange point) = codes "OutOfRange"
name_of (TooLong length) = codes "TooLong"

-- the octet at which the grid's number begins in Section 3, the number of the vertical coordinate or of the point,
-- or the length of the message
abbrev pub number_of : Demotion → Option ℕ
number_of (GridNumber octet) = Some octet
number_of (Coordinate index) = Some index
number_of (SecondaryMissing point) = Some point
number_of (OutOfRange point) = Some point
number_of (TooLong length) = Some length
number_of _ = None

-- the loss as a note prints it
abbrev pub demotion_text : Demotion → List ℕ
demotion_text loss = numbered (name_of loss) (number_of loss)
