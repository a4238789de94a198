-- The latitudes and the longitudes of the points of a grid (WMO-No. 306, Volume I.2, FM 92 GRIB edition 2, grid definition
-- template 3.0, flag table 3.4, scanning mode). The first and the last point are told in 10^-6 degree: La1, Lo1, La2 and Lo2.
-- Columns and rows are counted in steps from the first point, so that neither the columns from the west nor the rows from the
-- north are looked at.
use Rattle.std.specs.Prelude.{ℕ, ◌+◌, ◌-◌, ◌%◌, Bool, not, cond, ◌&&◌, ◌==◌, max, Option, Some, None, List, ℤ, pos, neg_ℤ, ◌+ℤ◌, ◌-ℤ◌, ◌*ℤ◌}
use Rattle.grib_bits.specs.Octets.{octets, signed_octets}
use Rattle.grib_rescan.specs.Causes.{is_lat_lon}
use Rattle.grib_rescan.specs.Scanning.{Place, scanning_of, along, along_columns, along_rows}
use Rattle.grib_places.specs.declared.cause.PlaceCause.{PlaceCause}
use Rattle.grib_places.specs.declared.cause.PlaceCause.TheVariants.{GridKind, ScanMode}
use Rattle.grib_places.specs.declared.coordinate.Coordinate.{Coordinate}
use Rattle.grib_places.specs.declared.coordinate.Coordinate.TheVariants.{Latitude, Longitude}
use Rattle.grib_places.specs.Degrees.{Degrees}

-- The places are not told: first by the kind of the grid, or a basic angle of its own (octets 39-42); then by bits 5 to 8 of the
-- scanning mode, which are reserved, or say that rows are offset.
abbrev pub place_cause_of : List ℕ → Option PlaceCause
place_cause_of s =
    cond (not (is_lat_lon s && (octets s 39 42 == 0))) (Some GridKind)
    (cond (not (octets s 72 72 % 16 == 0)) (Some ScanMode) None)

-- how many equal steps lead from the first of so many points to the last; 1 where there is one point
abbrev pub parts_of : ℕ → ℕ
parts_of count = max (count - 1) 1

-- point k, from 0, of as many points as `count` in a line, where the way from the first to the last is known
abbrev pub stepped : ℤ → ℤ → ℕ → ℕ → Degrees
stepped first way count k = record { number = (first *ℤ pos (parts_of count)) +ℤ (way *ℤ pos k); parts = parts_of count }

-- the way to the east from one longitude to another, modulo 360 degrees; a whole turn where they are one meridian
abbrev pub eastward : ℕ → ℕ → ℕ
eastward from to = 360000000 - (from + (360000000 - to % 360000000)) % 360000000

-- the way from the first longitude to the last, to the west where points of a row go there
abbrev pub row_way : Bool → ℕ → ℕ → ℤ
row_way westward lo1 lo2 = cond westward (neg_ℤ (pos (eastward lo2 lo1))) (pos (eastward lo1 lo2))

-- where point p, from 0, of ni columns and nj rows is, in steps
abbrev pub steps_of : Bool → Bool → ℕ → ℕ → ℕ → Place
steps_of by_columns alternates ni nj p = along by_columns (along_columns alternates nj p) (along_rows alternates ni p)

abbrev pub steps_at : List ℕ → ℕ → Place
steps_at s p =
    let scanning = scanning_of (octets s 72 72) in steps_of scanning.by_columns scanning.alternates (octets s 31 34) (octets s 35 38) p

-- ---- by the coordinate

-- the first, La1 or Lo1
abbrev pub first_of : Coordinate → List ℕ → ℤ
first_of Latitude s = signed_octets s 47 50
first_of Longitude s = pos (octets s 51 54)

-- from there to the last, La2 or Lo2
abbrev pub way_of : Coordinate → List ℕ → ℤ
way_of Latitude s = signed_octets s 56 59 -ℤ signed_octets s 47 50
way_of Longitude s = row_way (scanning_of (octets s 72 72)).westward (octets s 51 54) (octets s 60 63)

-- of how many, Nj or Ni
abbrev pub count_of : Coordinate → List ℕ → ℕ
count_of Latitude s = octets s 35 38
count_of Longitude s = octets s 31 34

-- k steps along a column or a row
abbrev pub degrees_at : Coordinate → List ℕ → ℕ → Degrees
degrees_at coordinate s k = stepped (first_of coordinate s) (way_of coordinate s) (count_of coordinate s) k

abbrev pub step_in : Coordinate → Place → ℕ
step_in Latitude place = place.row
step_in Longitude place = place.column

-- of point p
abbrev pub point_degrees : Coordinate → List ℕ → ℕ → Degrees
point_degrees coordinate s p = degrees_at coordinate s (step_in coordinate (steps_at s p))
