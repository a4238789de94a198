-- The keys of a field that edition 1 has a place for.
use Rattle.std.specs.Prelude.{Bool, true, false, List, [], ◌∷◌}
use Rattle.grib_params.specs.declared.matching.TableMatch.{TableMatch}
use Rattle.grib_params.specs.declared.matching.TableMatch.TheVariants.{Same, Any}
use Rattle.grib_keys.specs.declared.key.Key.{Key}
use Rattle.grib_keys.specs.declared.key.Key.TheVariants.{Discipline, Centre, SubCentre, MasterTables, LocalTables, Year, Month, Day, Hour, Minute, Second, GridTemplate, Points, Nj, Scanning, La1, Lo1, ProductTemplate, Category, Number, Process, Generator, TimeUnit, ForecastTime, Surface1, EndYear, EndMonth, EndDay, EndHour, EndMinute, EndSecond, RangeProcess, RangeIncrementType, RangeUnit, RangeLength}

-- the parameter, the centre, the reference time, the grid with its first point, the process, the
-- forecast time, the first surface, and the end and the time range of an interval
abbrev pub kept_keys : List Key
kept_keys =
    Discipline ∷ Centre ∷ SubCentre
    ∷ Year ∷ Month ∷ Day ∷ Hour ∷ Minute ∷ Second
    ∷ GridTemplate ∷ Points ∷ Nj ∷ Scanning ∷ La1 ∷ Lo1
    ∷ ProductTemplate ∷ Category ∷ Number ∷ Process ∷ Generator ∷ TimeUnit ∷ ForecastTime ∷ Surface1
    ∷ EndYear ∷ EndMonth ∷ EndDay ∷ EndHour ∷ EndMinute ∷ EndSecond
    ∷ RangeProcess ∷ RangeIncrementType ∷ RangeUnit ∷ RangeLength ∷ []

-- the versions of the tables of a parameter that come back: both, where they have to be the same; else that of the
-- local tables, where the parameter is for local use
abbrev pub table_keys : TableMatch → Bool → List Key
table_keys Same is_local = MasterTables ∷ LocalTables ∷ []
table_keys Any true = LocalTables ∷ []
table_keys Any false = []
