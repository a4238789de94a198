-- The names of the losses, as a note prints them.
use Rattle.std.specs.Prelude.{ℕ, List, ◌++◌, codes, Option, Some, None}
use Rattle.std.specs.Fmt.{decimal}
use Rattle.grib_reasons.specs.declared.loss.Loss.{Loss}
use Rattle.grib_reasons.specs.declared.loss.Loss.TheVariants.{Parameter, LevelType, TimeUnit, TimeRange, Date, AverageCount, LocalUse, GridFlags, GridNumber, Coordinate, Reference}

abbrev pub name_of : Loss → List ℕ
name_of Parameter = codes "Parameter"
name_of LevelType = codes "LevelType"
name_of TimeUnit = codes "TimeUnit"
name_of TimeRange = codes "TimeRange"
name_of Date = codes "Date"
name_of AverageCount = codes "AverageCount"
name_of LocalUse = codes "LocalUse"
name_of GridFlags = codes "GridFlags"
name_of (GridNumber octet) = codes "GridNumber"
name_of (Coordinate index) = codes "Coordinate"
name_of Reference = codes "Reference"

-- the octet at which the grid's number begins in Section 2, or the number of the vertical coordinate
abbrev pub number_of : Loss → Option ℕ
number_of (GridNumber octet) = Some octet
number_of (Coordinate index) = Some index
number_of _ = None

-- a name, with a number after it where there is one
abbrev pub numbered : List ℕ → Option ℕ → List ℕ
numbered name None = name
numbered name (Some number) = name ++ codes " " ++ decimal number

-- the loss as a note prints it
abbrev pub loss_text : Loss → List ℕ
loss_text loss = numbered (name_of loss) (number_of loss)
