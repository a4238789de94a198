-- The reference time of a message (WMO-No. 306, Volume I.2, FM 92 GRIB: edition 2, Section 1, octets 13 to 19; edition 1,
-- Section 1, octets 13 to 17 and 25), and whether it is a date and time of the Gregorian calendar, of a year up to 9999.
use Rattle.std.specs.Prelude.{ℕ, Bool, not, ◌&&◌, List, drop, nat_lt, ℤ, pos, neg_ℤ, int_le, ◌-ℤ◌, ◌+ℤ◌, ◌*ℤ◌}
use Rattle.jiff_core.specs.Calendar.{days_in_month}
use Rattle.grib_bits.specs.Octets.{octets}
use Rattle.grib1_sections.specs.Keys.{key_in}
use Rattle.grib_keys.specs.declared.key1.Key1.TheVariants.{YearOfCentury, Month, Day, Hour, Minute, Century}
use Rattle.grib_dates.specs.declared.time.ReferenceTime.{ReferenceTime}

abbrev pub time : ℤ → ℕ → ℕ → ℕ → ℕ → ℕ → ReferenceTime
time year month day hour minute second = record { year = year; month = month; day = day; hour = hour; minute = minute; second = second }

-- of a Section 1 of edition 2
abbrev pub time2_in : List ℕ → ReferenceTime
time2_in s1 = time (pos (octets s1 13 14)) (octets s1 15 15) (octets s1 16 16) (octets s1 17 17) (octets s1 18 18) (octets s1 19 19)

-- of one of edition 1, on the minute: 100 years for each century before this one, and the year of the century
abbrev pub time1_in : List ℕ → ReferenceTime
time1_in s1 =
    let key = key_in s1 in
    time ((pos 100 *ℤ (pos (key Century) -ℤ pos 1)) +ℤ pos (key YearOfCentury)) (key Month) (key Day) (key Hour) (key Minute) 0

-- a number from low to high
abbrev pub is_within : ℕ → ℕ → ℕ → Bool
is_within low high n = not (nat_lt n low) && not (nat_lt high n)

-- the calendar has this time. Its years are from -9999 on; a message states none before -100.
abbrev pub is_civil : ReferenceTime → Bool
is_civil t =
    int_le (neg_ℤ (pos 9999)) t.year && int_le t.year (pos 9999)
    && is_within 1 12 t.month && is_within 1 (days_in_month t.year t.month) t.day
    && nat_lt t.hour 24 && nat_lt t.minute 60 && nat_lt t.second 60

-- Section 1 follows Section 0, of 16 octets in edition 2 and of 8 in edition 1.
abbrev pub is_valid_time2 : List ℕ → Bool
is_valid_time2 message = is_civil (time2_in (drop 16 message))

abbrev pub is_valid_time1 : List ℕ → Bool
is_valid_time1 message = is_civil (time1_in (drop 8 message))
