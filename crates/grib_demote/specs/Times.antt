-- Units of time and time ranges (WMO-No. 306, Volume I.2, FM 92 GRIB edition 2, code tables 4.3, 4.4 and 4.10;
-- edition 1, code tables 4 and 5). The table of units is that by which they are migrated, read from the code of
-- edition 2.
use Rattle.std.specs.Prelude.{ℕ, ◌+◌, ◌*◌, ◌/◌, ◌%◌, Bool, true, false, not, cond, ◌&&◌, ◌||◌, Option, find, List, [], ◌∷◌, nat_lt, ◌==◌}
use Rattle.std.specs.List.{list_any}
use Rattle.std.specs.Option.{option_map_or}
use Rattle.grib_bits.specs.Octets.{octets}
use Rattle.grib_base.specs.Rules.{choose}
use Rattle.grib2_products.specs.Product.{product_template}
use Rattle.grib_migrate.specs.Times.{UnitRow, unit_rows}
use Rattle.grib_demote.specs.declared.time.TimeRange.{TimeRange}
use Rattle.grib_demote.specs.Dates.{moment_at, reference_time, is_after}

abbrev pub unit_at : ℕ → Option UnitRow
unit_at code = find (λ r. r.unit.code == code) unit_rows

-- the unit of a Section 4
abbrev pub unit_of : List ℕ → Option UnitRow
unit_of s4 = unit_at (octets s4 18 18)

-- Numbers of a Section 4: the type of generating process, the forecast time, and those of the first time range of
-- template 4.8.
abbrev pub process : List ℕ → ℕ
process s4 = octets s4 12 12

abbrev pub forecast_time : List ℕ → ℕ
forecast_time s4 = octets s4 19 22

abbrev pub is_interval : List ℕ → Bool
is_interval s4 = product_template s4 == 8

abbrev pub statistic : List ℕ → ℕ
statistic s4 = octets s4 47 47

abbrev pub range_length : List ℕ → ℕ
range_length s4 = octets s4 50 53

abbrev pub missing : List ℕ → ℕ
missing s4 = octets s4 43 46

-- the units from the reference time to the end of an interval
abbrev pub end_time : List ℕ → ℕ
end_time s4 = forecast_time s4 + range_length s4

-- a process that edition 1 tells, with a time that it has room for: 0 analysis, 1 initialization, 2 forecast
abbrev pub has_process : List ℕ → Bool
has_process s4 =
    let p = process s4 in
    let time = forecast_time s4 in
    cond (is_interval s4) (p == 2)
    (((p == 0) && (time == 0)) || ((p == 1) && not (nat_lt 255 time)) || ((p == 2) && not (nat_lt 65535 time)))

-- types of statistical processing: 0 average, 1 accumulation, 4 difference
abbrev pub is_statistic : ℕ → Bool
is_statistic p = list_any (λ s. s == p) (0 ∷ 1 ∷ 4 ∷ [])

-- one time range of such a type, in the unit of the product, over fields of one reference time, and numbers that
-- fit one octet
abbrev pub has_range : List ℕ → Bool
has_range s4 =
    (octets s4 42 42 == 1) && is_statistic (statistic s4) && (octets s4 48 48 == 2)
    && (octets s4 49 49 == octets s4 18 18) && (octets s4 55 58 == 0)
    && not (nat_lt 255 (end_time s4)) && not (nat_lt 255 (missing s4))

-- the interval ends where its time range does
abbrev pub has_end : List ℕ → List ℕ → Bool
has_end s1 s4 =
    let seconds = option_map_or (λ r. r.unit.seconds) (unit_of s4) 0 in
    is_after (reference_time s1) (end_time s4 * seconds) (moment_at s4 35)

abbrev pub loses_interval : List ℕ → List ℕ → Bool
loses_interval s1 s4 =
    choose (is_interval s4) (λ _. choose (has_range s4) (λ _. not (has_end s1 s4)) (λ _. true)) (λ _. false)

-- octets 19 to 21 and 24 of Section 1
abbrev pub range : ℕ → ℕ → ℕ → ℕ → TimeRange
range indicator p1 p2 missing = record { indicator = indicator; p1 = p1; p2 = p2; missing = missing }

-- over an interval: 3 average, 4 accumulation, 5 difference
abbrev pub indicator_of : ℕ → ℕ
indicator_of p = cond (p == 0) 3 (cond (p == 1) 4 5)

-- at a point in time: 1 an initialized analysis, 10 a time in two octets, 0 a time in one
abbrev pub instant_range : ℕ → ℕ → TimeRange
instant_range p time =
    cond (p == 1) (range 1 time 0 0)
    (cond ((p == 2) && ((time == 0) || nat_lt 255 time)) (range 10 (time / 256) (time % 256) 0) (range 0 time 0 0))

abbrev pub time_range : List ℕ → TimeRange
time_range s4 =
    cond (is_interval s4) (range (indicator_of (statistic s4)) (forecast_time s4) (end_time s4) (missing s4))
    (instant_range (process s4) (forecast_time s4))
