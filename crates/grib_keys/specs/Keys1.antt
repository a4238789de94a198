-- The keys of a message of edition 1: the numbers of Section 1, the product definition section (WMO-No. 306,
-- Volume I.2, FM 92 GRIB edition 1), by their names, with the place of each. Octets count from 1.
use Rattle.std.specs.Prelude.{ℕ, Bool, true, false, Option, List, [], ◌∷◌, codes}
use Rattle.std.specs.List.{find}
use Rattle.std.specs.Str.{bytes_eq}
use Rattle.grib_keys.specs.declared.table.Octets.{Octets}
use Rattle.grib_keys.specs.declared.key1.Key1.{Key1}
use Rattle.grib_keys.specs.declared.key1.Key1.TheVariants.{Version, Centre, Process, GridNumber, Flags, Parameter, LevelType, Level, YearOfCentury, Month, Day, Hour, Minute, Unit as TimeUnit, P1, P2, TimeRange, AverageCount, AverageMissing, Century, SubCentre, DecimalScale}

-- the octets at which a number stands, from the first to the last
abbrev at : ℕ → ℕ → Octets
at first last = record { first = first; last = last }

abbrev pub place_of : Key1 → Octets
place_of Version = at 4 4
place_of Centre = at 5 5
place_of Process = at 6 6
place_of GridNumber = at 7 7
place_of Flags = at 8 8
place_of Parameter = at 9 9
place_of LevelType = at 10 10
place_of Level = at 11 12
place_of YearOfCentury = at 13 13
place_of Month = at 14 14
place_of Day = at 15 15
place_of Hour = at 16 16
place_of Minute = at 17 17
place_of TimeUnit = at 18 18
place_of P1 = at 19 19
place_of P2 = at 20 20
place_of TimeRange = at 21 21
place_of AverageCount = at 22 23
place_of AverageMissing = at 24 24
place_of Century = at 25 25
place_of SubCentre = at 26 26
place_of DecimalScale = at 27 28

-- the names, as they are printed and as a command line has them
abbrev pub name1_of : Key1 → List ℕ
name1_of Version = codes "Version"
name1_of Centre = codes "Centre"
name1_of Process = codes "Process"
name1_of GridNumber = codes "GridNumber"
name1_of Flags = codes "Flags"
name1_of Parameter = codes "Parameter"
name1_of LevelType = codes "LevelType"
name1_of Level = codes "Level"
name1_of YearOfCentury = codes "YearOfCentury"
name1_of Month = codes "Month"
name1_of Day = codes "Day"
name1_of Hour = codes "Hour"
name1_of Minute = codes "Minute"
name1_of TimeUnit = codes "Unit"
name1_of P1 = codes "P1"
name1_of P2 = codes "P2"
name1_of TimeRange = codes "TimeRange"
name1_of AverageCount = codes "AverageCount"
name1_of AverageMissing = codes "AverageMissing"
name1_of Century = codes "Century"
name1_of SubCentre = codes "SubCentre"
name1_of DecimalScale = codes "DecimalScale"

-- all numbers, in the order of their octets
abbrev pub keys1 : List Key1
keys1 = Version ∷ Centre ∷ Process ∷ GridNumber ∷ Flags ∷ Parameter ∷ LevelType ∷ Level ∷ YearOfCentury ∷ Month ∷ Day ∷ Hour ∷ Minute ∷ TimeUnit ∷ P1 ∷ P2 ∷ TimeRange ∷ AverageCount ∷ AverageMissing ∷ Century ∷ SubCentre ∷ DecimalScale ∷ []

-- the number of this name, if there is one
abbrev pub key1_named : List ℕ → Option Key1
key1_named name = find (λ key. bytes_eq (name1_of key) name) keys1

-- whether a message may get another number there: not where others are read by it, the flags and the decimal scale
-- factor
abbrev pub can_set1 : Key1 → Bool
can_set1 Flags = false
can_set1 DecimalScale = false
can_set1 key = true
