-- Products (WMO-No. 306, Volume I.2, FM 92 GRIB): Section 1 of edition 1 and the vertical coordinates of its
-- Section 2 as Section 1 and as Section 4 of edition 2 with template 4.0, at a point in time, or 4.8, over an
-- interval, or with 4.1 or 4.11, for a member of an ensemble, from octet 6 on.
use Rattle.std.specs.Prelude.{ℕ, ◌-◌, cond, Option, Some, None, List, [], ◌∷◌, ◌++◌, map, length, ◌==◌}
use Rattle.std.specs.Option.{option_map_or}
use Rattle.grib_params.specs.declared.row.Target.{Target}
use Rattle.grib1_sections.specs.Keys.{key_in}
use Rattle.grib_keys.specs.declared.key1.Key1.TheVariants.{Centre, SubCentre, Process, P1, P2, TimeRange, AverageMissing}
use Rattle.grib_bits.specs.declared.adding.Number.{Number}
use Rattle.grib_bits.specs.declared.adding.Number.TheVariants.{One, Two, Four}
use Rattle.grib_migrate.specs.declared.date.Moment.{Moment}
use Rattle.grib_migrate.specs.declared.labels.Member.{Member}
use Rattle.grib_migrate.specs.declared.level.Surface.{Surface}
use Rattle.grib_migrate.specs.declared.level.Surfaces.{Surfaces}
use Rattle.grib_migrate.specs.declared.time.Unit.{Unit as UnitOfTime}
use Rattle.grib_bits.specs.Encoding.{all_octets, missing_1, missing_2}
use Rattle.grib_migrate.specs.Times.{is_interval, statistic, process_of, forecast_time}
use Rattle.grib_migrate.specs.Dates.{reference_time, end_of}
use Rattle.grib_migrate.specs.References.{binary32_of}
use Rattle.grib_migrate.specs.Labels.{member_numbers}

-- the significance of the reference time: the start of a forecast, else an analysis
abbrev pub significance : List ℕ → ℕ
significance s1 = cond (process_of s1 == 2) 1 0

-- a date and time
abbrev pub moment_numbers : Moment → List Number
moment_numbers m = Two m.year ∷ One m.month ∷ One m.day ∷ One m.hour ∷ One m.minute ∷ One m.second ∷ []

-- Section 1, octets 6-21
abbrev pub identification_numbers : Target → List ℕ → List Number
identification_numbers target s1 =
    Two (key_in s1 Centre)  -- 6-7
    ∷ Two (key_in s1 SubCentre)  -- 8-9
    ∷ One target.master  -- 10: the master tables
    ∷ One target.local  -- 11: the local tables
    ∷ One (significance s1)  -- 12
    ∷ moment_numbers (reference_time s1)  -- 13-19
    ++ (One missing_1  -- 20: the production status
    ∷ One missing_1  -- 21: the type of data
    ∷ [])

-- a fixed surface
abbrev pub surface_numbers : Surface → List Number
surface_numbers surface = One surface.kind ∷ One surface.scale_factor ∷ Four surface.scaled_value ∷ []

-- the product template: over an interval, or at a point in time
abbrev pub template_of : List ℕ → ℕ
template_of s1 = cond (is_interval (key_in s1 TimeRange)) 8 0

-- that of a member of an ensemble, where there is one
abbrev pub template_by : Option Member → List ℕ → ℕ
template_by None s1 = template_of s1
template_by (Some member) s1 = cond (is_interval (key_in s1 TimeRange)) 11 1

-- Section 4, octets 6-34, with this template and `count` coordinate values
abbrev pub instant_with : ℕ → Target → List ℕ → UnitOfTime → Surfaces → ℕ → List Number
instant_with template target s1 unit surfaces count =
    Two count  -- 6-7: the number of coordinate values
    ∷ Two template  -- 8-9: the template
    ∷ One target.category  -- 10
    ∷ One target.number  -- 11
    ∷ One (process_of s1)  -- 12
    ∷ One missing_1  -- 13: the background process
    ∷ One (key_in s1 Process)  -- 14
    ∷ Two missing_2 ∷ One missing_1  -- 15-17: the cutoff
    ∷ One unit.code  -- 18
    ∷ Four (forecast_time s1)  -- 19-22
    ∷ surface_numbers surfaces.first ++ surface_numbers surfaces.second  -- 23-28, 29-34

abbrev pub instant_numbers : Target → List ℕ → UnitOfTime → Surfaces → ℕ → List Number
instant_numbers target s1 unit surfaces count = instant_with (template_of s1) target s1 unit surfaces count

-- octets 35-58 of template 4.8, 38-61 of 4.11: the end, and one time range
abbrev pub interval_numbers : List ℕ → UnitOfTime → List Number
interval_numbers s1 unit =
    moment_numbers (end_of s1 unit.seconds)  -- 35-41
    ++ (One 1  -- 42: the number of time ranges
    ∷ Four (key_in s1 AverageMissing)  -- 43-46
    ∷ One (statistic (key_in s1 TimeRange))  -- 47
    ∷ One 2  -- 48: the forecast time grows, from one reference time
    ∷ One unit.code  -- 49
    ∷ Four (key_in s1 P2 - key_in s1 P1)  -- 50-53: the length
    ∷ One unit.code  -- 54
    ∷ Four 0  -- 55-58: the increment
    ∷ [])

-- those over an interval, and none at a point in time
abbrev pub end_numbers : List ℕ → UnitOfTime → List Number
end_numbers s1 unit = cond (is_interval (key_in s1 TimeRange)) (interval_numbers s1 unit) []

-- the coordinate values, as binary32 words; 0 where there is none, which is a loss
abbrev pub coordinate_numbers : List ℕ → List Number
coordinate_numbers words = map (λ word. Four (option_map_or (λ w. w) (binary32_of word) 0)) words

-- octet 6 and further, with these words of the vertical coordinates, of a member of an ensemble where there is one
abbrev pub product_octets_by : Option Member → Target → List ℕ → List ℕ → UnitOfTime → Surfaces → List ℕ
product_octets_by member target s1 words unit surfaces =
    all_octets (instant_with (template_by member s1) target s1 unit surfaces (length words))
    ++ (all_octets (member_numbers member)
    ++ (all_octets (end_numbers s1 unit)
    ++ all_octets (coordinate_numbers words)))

abbrev pub product_octets : Target → List ℕ → List ℕ → UnitOfTime → Surfaces → List ℕ
product_octets target s1 words unit surfaces = product_octets_by None target s1 words unit surfaces
