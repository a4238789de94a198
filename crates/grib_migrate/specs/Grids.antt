-- Grids (WMO-No. 306, Volume I.2, FM 92 GRIB): Section 2 of edition 1 with types of grid 0, 1, 3, 4 and 5 as
-- Section 3 of edition 2 with templates 3.0, 3.10, 3.30, 3.40 and 3.20, from octet 6 on. Edition 1 counts
-- angles in 10^-3 degree and lengths in metres, edition 2 in 10^-6 degree and in 10^-3 metre.
use Rattle.std.specs.Prelude.{ℕ, ◌+◌, ◌-◌, ◌*◌, ◌%◌, ◌/◌, ◌^◌, Bool, not, cond, ◌&&◌, ◌||◌, Option, Some, None, option_map, find, List, [], ◌∷◌, ◌++◌, take, drop, nat_lt, ◌==◌}
use Rattle.grib_bits.specs.Bits.{bit, digit}
use Rattle.grib_bits.specs.Octets.{octets}
use Rattle.grib1_sections.specs.Grid.{grid_type, nv, list_place, ni, nj, lists_rows, row_count}
use Rattle.grib_reasons.specs.declared.loss.Loss.{Loss}
use Rattle.grib_reasons.specs.declared.loss.Loss.TheVariants.{GridNumber}
use Rattle.grib_bits.specs.declared.adding.Number.{Number}
use Rattle.grib_bits.specs.declared.adding.Number.TheVariants.{One, Two, Four}
use Rattle.grib_migrate.specs.declared.scaled.Scaled.{Scaled}
use Rattle.grib_migrate.specs.declared.scaled.Scaled.TheVariants.{Angle, Longitude, Distance}
use Rattle.grib_bits.specs.Encoding.{all_octets, missing_1, missing_4}

-- the number of the three octets from `first` on
abbrev pub three : List ℕ → ℕ → ℕ
three s first = octets s first (first + 2)

-- a number of three octets with a sign: the first bit says that it is negative, unless the magnitude is 0
abbrev pub magnitude : ℕ → ℕ
magnitude n = n % 2 ^ 23

abbrev pub is_negative : ℕ → Bool
is_negative n = nat_lt (2 ^ 23) n

-- an angle a thousand times as large, as four octets with a sign
abbrev pub angle : ℕ → ℕ
angle n = cond (is_negative n) (2 ^ 31 + 1000 * magnitude n) (1000 * magnitude n)

-- a longitude is counted from 0 on: 360 degrees are added to a negative one
abbrev pub longitude : ℕ → ℕ
longitude n = cond (is_negative n) (1000 * (360000 - magnitude n)) (1000 * magnitude n)

-- a length; all ones is missing
abbrev pub distance : ℕ → ℕ
distance n = cond (n == 16777215) missing_4 (1000 * n)

-- whether a number fits the four octets
abbrev pub angle_fits : ℕ → Bool
angle_fits n = not (nat_lt 2147483 (magnitude n))

abbrev pub longitude_fits : ℕ → Bool
longitude_fits n = cond (is_negative n) (not (nat_lt 360000 (magnitude n))) (angle_fits n)

abbrev pub distance_fits : ℕ → Bool
distance_fits n = nat_lt n 4294968 || (n == 16777215)

-- a number that fits, or none
abbrev pub if_fits : Bool → ℕ → Option ℕ
if_fits fits n = cond fits (Some n) None

-- A number that is scaled, by the first of its octets: whether it fits, and what is written.
abbrev pub first_octet : Scaled → ℕ
first_octet (Angle first) = first
first_octet (Longitude first) = first
first_octet (Distance first) = first

abbrev pub fits : List ℕ → Scaled → Bool
fits s (Angle first) = angle_fits (three s first)
fits s (Longitude first) = longitude_fits (three s first)
fits s (Distance first) = distance_fits (three s first)

abbrev pub scaled : List ℕ → Scaled → ℕ
scaled s (Angle first) = angle (three s first)
scaled s (Longitude first) = longitude (three s first)
scaled s (Distance first) = distance (three s first)

-- the angles and distances of a grid, which are scaled, by its type, in the order of their octets
abbrev pub lat_lon_scaled : List Scaled
lat_lon_scaled = Angle 11 ∷ Longitude 14 ∷ Angle 18 ∷ Longitude 21 ∷ []

abbrev pub mercator_scaled : List Scaled
mercator_scaled =
    Angle 11 ∷ Longitude 14 ∷ Angle 18 ∷ Longitude 21 ∷ Angle 24 ∷ Distance 29 ∷ Distance 32 ∷ []

abbrev pub polar_scaled : List Scaled
polar_scaled = Angle 11 ∷ Longitude 14 ∷ Longitude 18 ∷ Distance 21 ∷ Distance 24 ∷ []

abbrev pub lambert_own : List Scaled
lambert_own = Angle 29 ∷ Angle 32 ∷ Angle 35 ∷ Longitude 38 ∷ []

abbrev pub lambert_scaled : List Scaled
lambert_scaled = polar_scaled ++ lambert_own

abbrev pub scaled_numbers : ℕ → List Scaled
scaled_numbers t =
    cond (t == 1) mercator_scaled (cond (t == 3) lambert_scaled (cond (t == 5) polar_scaled lat_lon_scaled))

-- the first of some numbers that does not fit, by its first octet
abbrev pub loss_among : List ℕ → List Scaled → Option Loss
loss_among s numbers = option_map (λ number. GridNumber (first_octet number)) (find (λ number. not (fits s number)) numbers)

abbrev pub grid_loss : List ℕ → Option Loss
grid_loss s = loss_among s (scaled_numbers (grid_type s))

-- Flags of octet 17: bit 1 increments are given, bit 2 the earth is the IAU's of 1965, bit 5 components are
-- relative to the grid. Bits 3, 4, 6, 7 and 8 have no meaning, nor have bits 4 to 8 of octet 28, the scanning
-- mode.
abbrev pub flags : List ℕ → ℕ
flags s = octets s 17 17

abbrev pub scanning : List ℕ → ℕ
scanning s = octets s 28 28

abbrev pub has_other_flags : List ℕ → Bool
has_other_flags s =
    not (flags s / 2 ^ 4 % 2 ^ 2 == 0) || not (flags s % 2 ^ 3 == 0) || not (scanning s % 2 ^ 5 == 0)

abbrev pub are_given : List ℕ → Bool
are_given s = bit 1 (flags s)

-- the flags of edition 2: bit 3 the i increment is given, bit 4 the j increment, bit 5 as it was
abbrev pub new_flags : List ℕ → ℕ
new_flags s =
    2 ^ 5 * digit (are_given s) + 2 ^ 4 * digit (are_given s && not (grid_type s == 4)) + 2 ^ 3 * digit (bit 5 (flags s))

-- an increment of two octets
abbrev pub increment : List ℕ → ℕ → ℕ
increment s first =
    let n = octets s first (first + 1) in cond (not (are_given s) || (n == 65535)) missing_4 (1000 * n)

-- the projection centre: bit 1 says that it is the south pole; where lengths are true, 60 degrees in its hemisphere
abbrev pub centre : List ℕ → ℕ
centre s = octets s 27 27

abbrev pub true_latitude : ℕ → ℕ
true_latitude centre = 2 ^ 31 * digit (bit 1 centre) + 60000000

-- the template of a type of grid
abbrev pub template_of : ℕ → ℕ
template_of t = cond (t == 1) 10 (cond (t == 3) 30 (cond (t == 4) 40 (cond (t == 5) 20 0)))

-- octets 6-14, for this number of points
abbrev pub header : ℕ → List ℕ → List Number
header points s =
    One 0  -- 6: the source
    ∷ Four points  -- 7-10
    ∷ One (2 * digit (lists_rows s))  -- 11: octets of each number of the list of rows
    ∷ One (digit (lists_rows s))  -- 12: what the list means
    ∷ Two (template_of (grid_type s))  -- 13-14
    ∷ []

-- octets 15-38
abbrev pub common : List ℕ → List Number
common s =
    One (2 * digit (bit 2 (flags s)))  -- 15: the shape of the earth
    ∷ One missing_1 ∷ Four missing_4  -- 16, 17-20: its radius
    ∷ One missing_1 ∷ Four missing_4  -- 21, 22-25: its major axis
    ∷ One missing_1 ∷ Four missing_4  -- 26, 27-30: its minor axis
    ∷ Four (cond (lists_rows s) missing_4 (ni s))  -- 31-34
    ∷ Four (nj s)  -- 35-38
    ∷ []

-- octets 39-72 of template 3.0, and of 3.40 with N in place of Dj
abbrev pub lat_lon : List ℕ → ℕ → List Number
lat_lon s last =
    Four 0  -- 39-42: the basic angle
    ∷ Four missing_4  -- 43-46: its subdivisions
    ∷ Four (angle (three s 11))  -- 47-50: La1
    ∷ Four (longitude (three s 14))  -- 51-54: Lo1
    ∷ One (new_flags s)  -- 55
    ∷ Four (angle (three s 18))  -- 56-59: La2
    ∷ Four (longitude (three s 21))  -- 60-63: Lo2
    ∷ Four (increment s 24)  -- 64-67: Di
    ∷ Four last  -- 68-71: Dj or N
    ∷ One (scanning s)  -- 72
    ∷ []

-- octets 39-72 of template 3.10
abbrev pub mercator : List ℕ → List Number
mercator s =
    Four (angle (three s 11))  -- 39-42: La1
    ∷ Four (longitude (three s 14))  -- 43-46: Lo1
    ∷ One (new_flags s)  -- 47
    ∷ Four (angle (three s 24))  -- 48-51: LaD
    ∷ Four (angle (three s 18))  -- 52-55: La2
    ∷ Four (longitude (three s 21))  -- 56-59: Lo2
    ∷ One (scanning s)  -- 60
    ∷ Four 0  -- 61-64: the orientation
    ∷ Four (distance (three s 29))  -- 65-68: Di
    ∷ Four (distance (three s 32))  -- 69-72: Dj
    ∷ []

-- octets 39-65 of templates 3.20 and 3.30, with this LaD
abbrev pub polar : List ℕ → ℕ → List Number
polar s lad =
    Four (angle (three s 11))  -- 39-42: La1
    ∷ Four (longitude (three s 14))  -- 43-46: Lo1
    ∷ One (new_flags s)  -- 47
    ∷ Four lad  -- 48-51: LaD
    ∷ Four (longitude (three s 18))  -- 52-55: LoV
    ∷ Four (distance (three s 21))  -- 56-59: Dx
    ∷ Four (distance (three s 24))  -- 60-63: Dy
    ∷ One (centre s)  -- 64: the projection centre
    ∷ One (scanning s)  -- 65
    ∷ []

-- octets 66-81 of template 3.30
abbrev pub lambert : List ℕ → List Number
lambert s =
    Four (angle (three s 29))  -- 66-69: Latin1
    ∷ Four (angle (three s 32))  -- 70-73: Latin2
    ∷ Four (angle (three s 35))  -- 74-77: the pole's latitude
    ∷ Four (longitude (three s 38))  -- 78-81: the pole's longitude
    ∷ []

-- octet 39 and further
abbrev pub template_numbers : List ℕ → List Number
template_numbers s =
    let t = grid_type s in
    cond (t == 1) (mercator s)
    (cond (t == 3) (polar s (angle (three s 29)) ++ lambert s)
    (cond (t == 4) (lat_lon s (octets s 26 27))
    (cond (t == 5) (polar s (true_latitude (centre s))) (lat_lon s (increment s 26)))))

-- the list of rows, two octets for each, where there is one: it stands behind the vertical coordinates
abbrev pub row_octets : List ℕ → List ℕ
row_octets s = take (2 * row_count s) (drop (list_place s - 1 + 4 * nv s) s)

-- octet 6 and further, for this number of points
abbrev pub grid_octets : ℕ → List ℕ → List ℕ
grid_octets points s =
    all_octets (header points s) ++ (all_octets (common s) ++ (all_octets (template_numbers s) ++ row_octets s))
