-- The names that ecCodes and wgrib2 give to what keys and commands are here.
use Rattle.std.specs.Prelude.{ℕ, Bool, ◌||◌, cond, List, [], codes}
use Rattle.std.specs.Str.{bytes_eq}

abbrev pub is : List ℕ → List ℕ → Bool
is this name = bytes_eq name this

-- the keys that say what ecCodes has by this name; nothing where it is none of these names
unfoldable pub keys_for : List ℕ → List ℕ
keys_for name =
    cond (is (codes "shortName") name || is (codes "paramId") name) (codes "discipline, category and number")
    (cond (is (codes "parameterCategory") name) (codes "category")
    (cond (is (codes "parameterNumber") name) (codes "number")
    (cond (is (codes "level") name) (codes "surface1, surface1Scale and surface1Value")
    (cond (is (codes "typeOfLevel") name || is (codes "typeOfFirstFixedSurface") name) (codes "surface1")
    (cond (is (codes "scaleFactorOfFirstFixedSurface") name) (codes "surface1Scale")
    (cond (is (codes "scaledValueOfFirstFixedSurface") name) (codes "surface1Value")
    (cond (is (codes "typeOfSecondFixedSurface") name) (codes "surface2")
    (cond (is (codes "scaleFactorOfSecondFixedSurface") name) (codes "surface2Scale")
    (cond (is (codes "scaledValueOfSecondFixedSurface") name) (codes "surface2Value")
    (cond (is (codes "step") name || is (codes "stepRange") name || is (codes "startStep") name) (codes "timeUnit and forecastTime")
    (cond (is (codes "endStep") name) (codes "timeUnit, forecastTime, rangeUnit and rangeLength")
    (cond (is (codes "dataDate") name) (codes "year, month and day")
    (cond (is (codes "dataTime") name) (codes "hour and minute")
    (cond (is (codes "validityDate") name || is (codes "validityTime") name) (codes "year, month, day, hour, timeUnit and forecastTime")
    (cond (is (codes "perturbationNumber") name || is (codes "member") name) (codes "ensembleNumber")
    (cond (is (codes "numberOfForecastsInEnsemble") name) (codes "ensembleMembers")
    (cond (is (codes "productDefinitionTemplateNumber") name) (codes "productTemplate")
    (cond (is (codes "gridType") name || is (codes "gridDefinitionTemplateNumber") name) (codes "gridTemplate")
    (cond (is (codes "packingType") name || is (codes "dataRepresentationTemplateNumber") name) (codes "packing")
    (cond (is (codes "indicatorOfParameter") name) (codes "Parameter")
    (cond (is (codes "indicatorOfTypeOfLevel") name) (codes "LevelType") [])))))))))))))))))))))

-- the command that does what other programs have by this name; nothing where it is none of these names
unfoldable pub command_for : List ℕ → List ℕ
command_for name =
    cond (is (codes "get") name || is (codes "grib_get") name) (codes "keys")
    (cond (is (codes "ls") name || is (codes "grib_ls") name || is (codes "wgrib") name || is (codes "wgrib2") name) (codes "list")
    (cond (is (codes "count") name || is (codes "grib_count") name) (codes "check")
    (cond (is (codes "copy") name || is (codes "grib_copy") name) (codes "filter")
    (cond (is (codes "grib_set") name) (codes "set")
    (cond (is (codes "grib_dump") name || is (codes "grib_get_data") name || is (codes "data") name) (codes "dump")
    (cond (is (codes "grib_compare") name || is (codes "diff") name) (codes "compare")
    (cond (is (codes "convert") name) (codes "migrate") [])))))))
