-- Units of time and time ranges (WMO-No. 306, Volume I.2, FM 92 GRIB edition 1, code tables 4 and 5; edition 2,
-- code tables 4.3, 4.4 and 4.10).
use Rattle.std.specs.Prelude.{ℕ, Bool, not, cond, ◌&&◌, ◌||◌, Option, option_map, find, List, [], ◌∷◌, nat_lt, ◌==◌}
use Rattle.std.specs.List.{list_any}
use Rattle.grib_bits.specs.Octets.{octets}
use Rattle.grib1_sections.specs.Keys.{key_in}
use Rattle.grib_keys.specs.declared.key1.Key1.TheVariants.{Unit as TimeUnit, P1, P2, TimeRange}
use Rattle.grib_migrate.specs.declared.time.Unit.{Unit as UnitOfTime}

-- a unit by its code in edition 1, with its code in edition 2 and its seconds
pub record UnitRow : Type 0 where
  pub old : ℕ
  pub unit : UnitOfTime

abbrev pub unit_row : ℕ → ℕ → ℕ → UnitRow
unit_row old code seconds = record { old = old; unit = record { code = code; seconds = seconds } }

-- minute, hour, day, 3, 6 and 12 hours, second
abbrev pub unit_rows : List UnitRow
unit_rows =
    unit_row 0 0 60
    ∷ unit_row 1 1 3600
    ∷ unit_row 2 2 86400
    ∷ unit_row 10 10 10800
    ∷ unit_row 11 11 21600
    ∷ unit_row 12 12 43200
    ∷ unit_row 254 13 1
    ∷ []

abbrev pub unit_at : ℕ → Option UnitOfTime
unit_at old = option_map (λ r. r.unit) (find (λ r. r.old == old) unit_rows)

abbrev pub unit_of : List ℕ → Option UnitOfTime
unit_of s1 = unit_at (key_in s1 TimeUnit)

-- time ranges at a point in time: 0 and 1 (P1 after the reference time, and an initialized analysis), 10 (P1 and
-- P2 are one number)
abbrev pub is_instant : ℕ → Bool
is_instant range = list_any (λ r. r == range) (0 ∷ 1 ∷ 10 ∷ [])

-- time ranges from P1 to P2: 3 average, 4 accumulation, 5 difference
abbrev pub is_interval : ℕ → Bool
is_interval range = list_any (λ r. r == range) (3 ∷ 4 ∷ 5 ∷ [])

-- a time range from P1 to P2 as a type of statistical processing
abbrev pub statistic : ℕ → ℕ
statistic range = cond (range == 3) 0 (cond (range == 4) 1 4)

-- a time range that is lost
abbrev pub loses_range : List ℕ → Bool
loses_range s1 =
    let range = key_in s1 TimeRange in
    not (is_instant range || is_interval range) || (is_interval range && nat_lt (key_in s1 P2) (key_in s1 P1))

-- the type of generating process: 1 initialization, 0 analysis, 2 forecast
abbrev pub process_of : List ℕ → ℕ
process_of s1 =
    let range = key_in s1 TimeRange in
    cond (range == 1) 1 (cond ((range == 0) && (key_in s1 P1 == 0)) 0 2)

-- the forecast time: P1, for time range 10 the number in octets 19 and 20
abbrev pub forecast_time : List ℕ → ℕ
forecast_time s1 = cond (key_in s1 TimeRange == 10) (octets s1 19 20) (key_in s1 P1)
