-- The reference time and the end of an interval (WMO-No. 306, Volume I.2, FM 92 GRIB edition 2, Section 1, octets
-- 13 to 19, and product definition template 4.8, octets 35 to 41).
use Rattle.std.specs.Prelude.{ℕ, ◌+◌, ◌-◌, ◌*◌, ◌/◌, Bool, false, not, ◌&&◌, ◌||◌, List, ◌==◌}
use Rattle.std.specs.Option.{option_map_or}
use Rattle.grib_bits.specs.Octets.{octets}
use Rattle.grib_migrate.specs.declared.date.Moment.{Moment}
use Rattle.grib_migrate.specs.Dates.{moment, is_civil, later_in}

-- the date and time in the seven octets from `first` on
abbrev pub moment_at : List ℕ → ℕ → Moment
moment_at s first =
    moment (octets s first (first + 1)) (octets s (first + 2) (first + 2)) (octets s (first + 3) (first + 3))
    (octets s (first + 4) (first + 4)) (octets s (first + 5) (first + 5)) (octets s (first + 6) (first + 6))

abbrev pub reference_time : List ℕ → Moment
reference_time s1 = moment_at s1 13

-- no date and time of years 1 to 9999, or not on the minute
abbrev pub loses_date : List ℕ → Bool
loses_date s1 = not (is_civil (reference_time s1)) || not ((reference_time s1).second == 0)

abbrev pub is_same : Moment → Moment → Bool
is_same a b =
    (a.year == b.year) && (a.month == b.month) && (a.day == b.day) && (a.hour == b.hour) && (a.minute == b.minute)
    && (a.second == b.second)

-- whether a moment is these seconds after a start, and both are of years 1 to 9999
abbrev pub is_after : Moment → ℕ → Moment → Bool
is_after start seconds end = option_map_or (is_same end) (later_in start seconds) false

-- The year is 100 (century - 1) + year of the century, which is 1 to 100.
abbrev pub century : List ℕ → ℕ
century s1 = ((reference_time s1).year - 1) / 100 + 1

abbrev pub year_of_century : List ℕ → ℕ
year_of_century s1 = (reference_time s1).year - 100 * (century s1 - 1)
