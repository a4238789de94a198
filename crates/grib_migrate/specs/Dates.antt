-- The reference time and the end of an interval (WMO-No. 306, Volume I.2, FM 92 GRIB edition 1, Section 1,
-- octets 13 to 17 and 25), in the Gregorian calendar.
use Rattle.std.specs.Prelude.{ℕ, zero, suc, ◌+◌, ◌-◌, ◌*◌, ◌/◌, ◌%◌, ◌≡◌, ◌<◌, ◌≤◌, Bool, not, cond, ◌&&◌, Option, Some, None, List, nat_lt, ℤ, pos, ◌+ℤ◌, ◌*ℤ◌}
use Rattle.jiff_core.specs.Calendar.{days_in_month, days_from_civil}
use Rattle.jiff_core.specs.declared.civil.datetime.DateTime.{DateTime}
use Rattle.grib1_sections.specs.Keys.{key_in}
use Rattle.grib_keys.specs.declared.key1.Key1.TheVariants.{YearOfCentury, Month, Day, Hour, Minute, P2, Century}
use Rattle.grib_migrate.specs.declared.date.Moment.{Moment}

-- The year of a Section 1: 100 (Century - 1) + YearOfCentury. What would be below 0 is 0 here; there is no such
-- year either.
abbrev pub year_of : List ℕ → ℕ
year_of s1 = 100 * key_in s1 Century + key_in s1 YearOfCentury - 100

abbrev pub moment : ℕ → ℕ → ℕ → ℕ → ℕ → ℕ → Moment
moment year month day hour minute second = record { year = year; month = month; day = day; hour = hour; minute = minute; second = second }

abbrev pub reference_time : List ℕ → Moment
reference_time s1 = moment (year_of s1) (key_in s1 Month) (key_in s1 Day) (key_in s1 Hour) (key_in s1 Minute) 0

-- a number from low to high
abbrev pub is_within : ℕ → ℕ → ℕ → Bool
is_within low high n = not (nat_lt n low) && not (nat_lt high n)

-- a date and time of years 1 to 9999
abbrev pub is_civil : Moment → Bool
is_civil m =
    is_within 1 9999 m.year && is_within 1 12 m.month && is_within 1 (days_in_month (pos m.year) m.month) m.day
    && nat_lt m.hour 24 && nat_lt m.minute 60 && nat_lt m.second 60

-- as a fact
abbrev pub IsCivil : Moment → Type 0
IsCivil m =
    (1 ≤ m.year) × (m.year ≤ 9999) × (1 ≤ m.month) × (m.month ≤ 12) × (1 ≤ m.day) × (m.day ≤ days_in_month (pos m.year) m.month)
    × (m.hour < 24) × (m.minute < 60) × (m.second < 60)

-- seconds of the day
abbrev pub time_of_day : Moment → ℕ
time_of_day m = 3600 * m.hour + 60 * m.minute + m.second

-- Seconds: 86,400 for each day number, and those of the day.
abbrev pub seconds_of : Moment → ℤ
seconds_of m = days_from_civil (pos m.year) m.month m.day *ℤ pos 86400 +ℤ pos (time_of_day m)

-- the day after a date, at a time
abbrev pub next_day : Moment → Moment
next_day m =
    cond (nat_lt m.day (days_in_month (pos m.year) m.month)) (moment m.year m.month (m.day + 1) m.hour m.minute m.second)
    (cond (nat_lt m.month 12) (moment m.year (m.month + 1) 1 m.hour m.minute m.second)
    (moment (m.year + 1) 1 1 m.hour m.minute m.second))

abbrev pub days_later : ℕ → Moment → Moment
days_later zero m = m
days_later (suc n) m = next_day (days_later n m)

-- a moment some seconds later: its seconds are more by that number
abbrev pub later : Moment → ℕ → Moment
later m seconds =
    let total = time_of_day m + seconds in
    let at = moment m.year m.month m.day (total % 86400 / 3600) (total % 3600 / 60) (total % 60) in
    days_later (total / 86400) at

-- the end of an interval: P2 units after the reference time
abbrev pub end_of : List ℕ → ℕ → Moment
end_of s1 unit_seconds = later (reference_time s1) (key_in s1 P2 * unit_seconds)

-- a moment that is not after year 9999
abbrev pub within_9999 : Moment → Option Moment
within_9999 m = cond (nat_lt 9999 m.year) None (Some m)

-- a moment that the calendar has, some seconds later, if that is not after year 9999
abbrev pub later_in : Moment → ℕ → Option Moment
later_in m seconds = cond (is_civil m) (within_9999 (later m seconds)) None

-- what the calendar has is this moment
pub record IsAt (at : DateTime) (m : Moment) : Type 0 where
  pub year : at.date.year ≡ pos m.year
  pub month : at.date.month ≡ m.month
  pub day : at.date.day ≡ m.day
  pub hour : at.time.hour ≡ m.hour
  pub minute : at.time.minute ≡ m.minute
  pub second : at.time.second ≡ m.second
