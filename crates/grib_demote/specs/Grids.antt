-- Grids (WMO-No. 306, Volume I.2, FM 92 GRIB): Section 3 of edition 2 with templates 3.0, 3.10, 3.20, 3.30 and
-- 3.40 as Section 2 of edition 1 with types of grid 0, 1, 5, 3 and 4, from octet 4 on. Edition 2 counts angles
-- in 10^-6 degree and lengths in 10^-3 metre, edition 1 in 10^-3 degree and in metres.
use Rattle.std.specs.Prelude.{ℕ, ◌+◌, ◌*◌, ◌%◌, ◌/◌, ◌^◌, Bool, not, cond, ◌&&◌, ◌||◌, Option, option_map, find, List, [], ◌∷◌, ◌++◌, nat_lt, ◌==◌}
use Rattle.std.specs.List.{list_any}
use Rattle.grib_bits.specs.Bits.{bit, digit}
use Rattle.grib_bits.specs.Octets.{octets}
use Rattle.grib2_grids.specs.Grid.{grid_template, list_octets, list_meaning, ni, nj, row_list}
use Rattle.grib_bits.specs.Encoding.{missing_4}
use Rattle.grib_migrate.specs.Grids as migrate
use Rattle.grib_bits.specs.declared.adding.Number.{Number}
use Rattle.grib_bits.specs.declared.adding.Number.TheVariants.{One, Two, Three, Four}
use Rattle.grib_demote.specs.declared.tested.Tested.{Tested}
use Rattle.grib_reasons.specs.declared.demotion.Demotion.{Demotion}
use Rattle.grib_reasons.specs.declared.demotion.Demotion.TheVariants.{GridNumber}

-- the types of grid, each of the template that it is migrated to
abbrev pub grid_types : List ℕ
grid_types = 0 ∷ 1 ∷ 5 ∷ 3 ∷ 4 ∷ []

abbrev pub type_of : ℕ → Option ℕ
type_of template = find (λ t. migrate.template_of t == template) grid_types

-- templates 3.0 and 3.40 share their octets
abbrev pub is_lat_lon : List ℕ → Bool
is_lat_lon s = (grid_template s == 0) || (grid_template s == 40)

abbrev pub is_listed : List ℕ → Bool
is_listed s = not (list_octets s == 0)

abbrev pub four : List ℕ → ℕ → ℕ
four s first = octets s first (first + 3)

-- Flags: bit 3 the i increment is given, bit 4 the j increment, bit 5 components are relative to the grid.
abbrev pub flags : List ℕ → ℕ
flags s = cond (is_lat_lon s) (octets s 55 55) (octets s 47 47)

abbrev pub scanning : List ℕ → ℕ
scanning s =
    cond (is_lat_lon s) (octets s 72 72) (cond (grid_template s == 10) (octets s 60 60) (octets s 65 65))

abbrev pub are_given : List ℕ → Bool
are_given s = bit 3 (flags s)

-- a flag other than bits 3, 4 and 5, one increment given without the other where both have a place, or a bit of
-- the scanning mode other than 1, 2 and 3
abbrev pub loses_flags : List ℕ → Bool
loses_flags s =
    not (flags s / 2 ^ 6 == 0) || not (flags s % 2 ^ 3 == 0)
    || (not (digit (bit 3 (flags s)) == digit (bit 4 (flags s))) && not (grid_template s == 40))
    || not (scanning s % 2 ^ 5 == 0)

-- a row of more points than two octets tell
abbrev pub has_long_row : List ℕ → Bool
has_long_row rows = list_any (λ row. nat_lt 65535 row) rows

-- a list of rows that are not whole rows of points, or that has such a row
abbrev pub loses_rows : List ℕ → Bool
loses_rows s = is_listed s && (not (list_meaning s == 1) || has_long_row (row_list s))

-- Whether a number fits. The magnitude of an angle is behind its first bit, which says that it is negative.
abbrev pub is_thousands : ℕ → Bool
is_thousands n = n % 1000 == 0

abbrev pub count_fits : ℕ → Bool
count_fits n = nat_lt n 65535

abbrev pub angle_fits : ℕ → Bool
angle_fits n = is_thousands (n % 2 ^ 31)

abbrev pub longitude_fits : ℕ → Bool
longitude_fits n = nat_lt n (2 ^ 31) && is_thousands n

abbrev pub length_fits : ℕ → Bool
length_fits n = (n == missing_4) || is_thousands n

abbrev pub increment_fits : Bool → ℕ → Bool
increment_fits given n = not given || (n == missing_4) || (is_thousands n && not (nat_lt 65534000 n))

-- a number by the first of its octets, and whether it fits
abbrev pub tested : ℕ → Bool → Tested
tested first fits = record { first = first; fits = fits }

abbrev pub tested_angle : List ℕ → ℕ → Tested
tested_angle s first = tested first (angle_fits (four s first))

abbrev pub tested_longitude : List ℕ → ℕ → Tested
tested_longitude s first = tested first (longitude_fits (four s first))

abbrev pub tested_length : List ℕ → ℕ → Tested
tested_length s first = tested first (length_fits (four s first))

abbrev pub tested_increment : List ℕ → ℕ → Tested
tested_increment s first = tested first (increment_fits (are_given s) (four s first))

abbrev pub tested_zero : List ℕ → ℕ → Tested
tested_zero s first = tested first (four s first == 0)

-- The numbers of a Section 3 in the order of their octets. Ni with a list of rows and the subdivisions are not
-- tested.
abbrev pub tested_ni : List ℕ → Tested
tested_ni s = tested 31 (is_listed s || count_fits (ni s))

abbrev pub tested_nj : List ℕ → Tested
tested_nj s = tested 35 (count_fits (nj s))

abbrev pub tested_last : List ℕ → Tested
tested_last s = cond (grid_template s == 40) (tested 68 (not (nat_lt 65535 (four s 68)))) (tested_increment s 68)

abbrev pub lat_lon_tested : List ℕ → List Tested
lat_lon_tested s =
    tested_ni s
    ∷ tested_nj s
    ∷ tested_zero s 39  -- the basic angle
    ∷ tested_angle s 47  -- La1
    ∷ tested_longitude s 51  -- Lo1
    ∷ tested_angle s 56  -- La2
    ∷ tested_longitude s 60  -- Lo2
    ∷ tested_increment s 64  -- Di
    ∷ tested_last s  -- N, or Dj
    ∷ []

abbrev pub mercator_tested : List ℕ → List Tested
mercator_tested s =
    tested_ni s
    ∷ tested_nj s
    ∷ tested_angle s 39  -- La1
    ∷ tested_longitude s 43  -- Lo1
    ∷ tested_angle s 48  -- LaD
    ∷ tested_angle s 52  -- La2
    ∷ tested_longitude s 56  -- Lo2
    ∷ tested_zero s 61  -- the orientation
    ∷ tested_length s 65  -- Di
    ∷ tested_length s 69  -- Dj
    ∷ []

-- those that polar stereographic and Lambert grids share, with the LaD that edition 1 has no place for
abbrev pub polar_tested : List ℕ → ℕ → List Tested
polar_tested s lad =
    tested_ni s
    ∷ tested_nj s
    ∷ tested_angle s 39  -- La1
    ∷ tested_longitude s 43  -- Lo1
    ∷ tested 48 (angle_fits (four s 48) && (four s 48 == lad))  -- LaD
    ∷ tested_longitude s 52  -- LoV
    ∷ tested_length s 56  -- Dx
    ∷ tested_length s 60  -- Dy
    ∷ []

abbrev pub lambert_tested : List ℕ → List Tested
lambert_tested s =
    tested_angle s 66  -- Latin1
    ∷ tested_angle s 70  -- Latin2
    ∷ tested_angle s 74  -- the pole's latitude
    ∷ tested_longitude s 78  -- the pole's longitude
    ∷ []

-- the first of some numbers that does not fit, by its first octet
abbrev pub loss_among : List Tested → Option Demotion
loss_among numbers = option_map (λ number. GridNumber number.first) (find (λ number. not number.fits) numbers)

abbrev pub tested_numbers : List ℕ → List Tested
tested_numbers s =
    let t = grid_template s in
    cond (t == 10) (mercator_tested s)
    (cond (t == 20) (polar_tested s (migrate.true_latitude (octets s 64 64)))
    (cond (t == 30) (polar_tested s (four s 66) ++ lambert_tested s) (lat_lon_tested s)))

abbrev pub grid_loss : List ℕ → Option Demotion
grid_loss s = loss_among (tested_numbers s)

-- What is written for a number, a thousandth of it. Zero has no sign, and all ones is missing.
abbrev pub angle : ℕ → ℕ
angle n = cond (nat_lt (2 ^ 31) n) (2 ^ 23 + n % 2 ^ 31 / 1000) (n % 2 ^ 31 / 1000)

abbrev pub longitude : ℕ → ℕ
longitude n = n / 1000

abbrev pub distance : ℕ → ℕ
distance n = cond (n == missing_4) 16777215 (n / 1000)

abbrev pub increment : Bool → ℕ → ℕ
increment given n = cond (not given || (n == missing_4)) 65535 (n / 1000)

-- flags of edition 1: bit 1 increments are given, bit 2 the earth is the IAU's of 1965, bit 5 as it was
abbrev pub old_flags : List ℕ → ℕ
old_flags s = 2 ^ 7 * digit (are_given s) + 2 ^ 6 * digit (octets s 15 15 == 2) + 2 ^ 3 * digit (bit 5 (flags s))

abbrev pub angle_at : List ℕ → ℕ → Number
angle_at s first = Three (angle (four s first))

abbrev pub longitude_at : List ℕ → ℕ → Number
longitude_at s first = Three (longitude (four s first))

abbrev pub distance_at : List ℕ → ℕ → Number
distance_at s first = Three (distance (four s first))

abbrev pub increment_at : List ℕ → ℕ → Number
increment_at s first = Two (increment (are_given s) (four s first))

-- N of template 3.40, Dj of template 3.0
abbrev pub last_number : List ℕ → Number
last_number s = cond (grid_template s == 40) (Two (four s 68)) (increment_at s 68)

-- octets 4-10, with the number of vertical coordinates and the type of grid
abbrev pub has_far_lists : List ℕ → Bool
has_far_lists s = (grid_template s == 10) || (grid_template s == 30)

abbrev pub list_place : ℕ → List ℕ → ℕ
list_place nv s = cond ((nv == 0) && not (is_listed s)) 255 (cond (has_far_lists s) 43 33)

abbrev pub header : ℕ → ℕ → List ℕ → List Number
header nv grid_type s =
    One nv
    ∷ One (list_place nv s)  -- 5: where the lists begin
    ∷ One grid_type
    ∷ Two (cond (is_listed s) 65535 (ni s))  -- 7-8
    ∷ Two (nj s)  -- 9-10
    ∷ []

-- octets 11-32 of types 0 and 4, with Dj or N
abbrev pub lat_lon : List ℕ → List Number
lat_lon s =
    angle_at s 47  -- 11-13: La1
    ∷ longitude_at s 51  -- 14-16: Lo1
    ∷ One (old_flags s)  -- 17
    ∷ angle_at s 56  -- 18-20: La2
    ∷ longitude_at s 60  -- 21-23: Lo2
    ∷ increment_at s 64  -- 24-25: Di
    ∷ last_number s  -- 26-27: N, or Dj
    ∷ One (scanning s)  -- 28
    ∷ Four 0  -- 29-32
    ∷ []

-- octets 11-42 of type 1
abbrev pub mercator : List ℕ → List Number
mercator s =
    angle_at s 39  -- 11-13: La1
    ∷ longitude_at s 43  -- 14-16: Lo1
    ∷ One (old_flags s)  -- 17
    ∷ angle_at s 52  -- 18-20: La2
    ∷ longitude_at s 56  -- 21-23: Lo2
    ∷ angle_at s 48  -- 24-26: Latin
    ∷ One 0  -- 27
    ∷ One (scanning s)  -- 28
    ∷ distance_at s 65  -- 29-31: Di
    ∷ distance_at s 69  -- 32-34: Dj
    ∷ Four 0 ∷ Four 0  -- 35-42
    ∷ []

-- octets 11-28 of types 5 and 3
abbrev pub polar : List ℕ → List Number
polar s =
    angle_at s 39  -- 11-13: La1
    ∷ longitude_at s 43  -- 14-16: Lo1
    ∷ One (old_flags s)  -- 17
    ∷ longitude_at s 52  -- 18-20: LoV
    ∷ distance_at s 56  -- 21-23: Dx
    ∷ distance_at s 60  -- 24-26: Dy
    ∷ One (octets s 64 64)  -- 27: the projection centre
    ∷ One (scanning s)  -- 28
    ∷ []

-- octets 29-32 of type 5
abbrev pub polar_end : List Number
polar_end = Four 0 ∷ []

-- octets 29-42 of type 3
abbrev pub lambert : List ℕ → List Number
lambert s =
    angle_at s 66  -- 29-31: Latin1
    ∷ angle_at s 70  -- 32-34: Latin2
    ∷ angle_at s 74  -- 35-37: the pole's latitude
    ∷ longitude_at s 78  -- 38-40: the pole's longitude
    ∷ Two 0  -- 41-42
    ∷ []

-- octet 11 and further, before the lists
abbrev pub template_numbers : List ℕ → List Number
template_numbers s =
    let t = grid_template s in
    cond (t == 10) (mercator s)
    (cond (t == 20) (polar s ++ polar_end) (cond (t == 30) (polar s ++ lambert s) (lat_lon s)))
