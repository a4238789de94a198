-- Section 3 of a grid of latitude and longitude (WMO-No. 306, Volume I.2, FM 92 GRIB edition 2, grid
-- definition template 3.0), in the order of scanning octet 0, and that of a box.
use Rattle.std.specs.Prelude.{◌≡◌, ℕ, ◌+◌, ◌-◌, ◌*◌, ◌%◌, ◌^◌, ◌<◌, ◌≤◌, ◌⊎◌, Bool, not, cond, ◌&&◌, List, [], ◌∷◌, ◌++◌, length, take, drop, int_lt, ◌==◌, ℤ, pos, nat_abs, ◌-ℤ◌}
use Rattle.std.specs.Ordering.{int_eq}
use Rattle.grib_bits.specs.Octets.{octets, octet_list, signed_octets}
use Rattle.grib_bits.specs.Encoding.{octets_of}
use Rattle.grib_base.specs.declared.limits.TheConstants.{MOST_POINTS}
use Rattle.grib_rescan.specs.declared.points.Area.{Area}
use Rattle.grib_rescan.specs.Scanning.{scanning_of}
use Rattle.grib_rescan.specs.Points.{width, height}

-- a grid of template 3.0 without a list of rows: its section is long enough, and its points are counted
pub record HasPoints (s : List ℕ) : Type 0 where
  pub long : 72 ≤ length s
  pub columns : 1 ≤ octets s 31 34
  pub rows : 1 ≤ octets s 35 38
  pub few : octets s 31 34 * octets s 35 38 ≤ MOST_POINTS

-- a Section 3 which, where template 3.0 defines its grid without a list of rows, has its points
pub record HasTemplate (s : List ℕ) : Type 0 where
  pub least : 14 ≤ length s
  pub points : octets s 6 6 ≡ 0 → octets s 13 14 ≡ 0 → octets s 11 11 ≡ 0 → HasPoints s

-- a Section 3 of template 3.0 without a list of rows, which no rule of the profile refuses
pub record IsLatLon (s : List ℕ) : Type 0 where
  pub long : 72 ≤ length s
  pub source : octets s 6 6 ≡ 0
  pub template : octets s 13 14 ≡ 0
  pub list : octets s 11 11 ≡ 0
  pub some : 1 ≤ octets s 7 10
  pub few : octets s 7 10 ≤ MOST_POINTS
  pub product : octets s 31 34 * octets s 35 38 ≡ octets s 7 10

-- these octets in place of those from `first` on, counted from 1
abbrev pub with_octets : ℕ → List ℕ → List ℕ → List ℕ
with_octets first octets s = take (first - 1) s ++ (octets ++ drop (first - 1 + length octets) s)

-- The first corner becomes the north west one: La1 and La2 are exchanged where points of a column go
-- northward, Lo1 and Lo2 where points of a row go westward. The scanning octet becomes 0.
abbrev pub rescanned_section : List ℕ → List ℕ
rescanned_section s =
    let scanning = scanning_of (octets s 72 72) in
    let la1 = octet_list s 47 50 in
    let lo1 = octet_list s 51 54 in
    let la2 = octet_list s 56 59 in
    let lo2 = octet_list s 60 63 in
    with_octets 72 (0 ∷ [])
    (with_octets 60 (cond scanning.westward lo1 lo2)
    (with_octets 56 (cond scanning.northward la1 la2)
    (with_octets 51 (cond scanning.westward lo2 lo1)
    (with_octets 47 (cond scanning.northward la2 la1) s))))

-- the latitude of row j, with sign, and the longitude of column i, in 10^-6 degree
abbrev pub latitude_at : List ℕ → ℕ → ℤ
latitude_at s j = signed_octets s 47 50 -ℤ pos (j * octets s 68 71)

abbrev pub longitude_at : List ℕ → ℕ → ℕ
longitude_at s i = (octets s 51 54 + i * octets s 64 67) % 360000000

-- a number with sign in 32 bits: the first bit is set where it is negative
abbrev pub with_sign : ℤ → ℕ
with_sign x = cond (int_lt x (pos 0)) (2 ^ 31 + nat_abs x) (nat_abs x)

-- the numbers of the points, of the columns and of the rows of a box
abbrev pub with_size : Area → List ℕ → List ℕ
with_size area s =
    with_octets 35 (octets_of 4 (height area))
    (with_octets 31 (octets_of 4 (width area))
    (with_octets 7 (octets_of 4 (height area * width area)) s))

-- La1, Lo1, La2 and Lo2 of a box of a grid
abbrev pub with_corners : Area → List ℕ → List ℕ → List ℕ
with_corners area grid s =
    with_octets 60 (octets_of 4 (longitude_at grid area.i1))
    (with_octets 56 (octets_of 4 (with_sign (latitude_at grid area.j1)))
    (with_octets 51 (octets_of 4 (longitude_at grid area.i0))
    (with_octets 47 (octets_of 4 (with_sign (latitude_at grid area.j0))) s)))

abbrev pub cropped_section : Area → List ℕ → List ℕ
cropped_section area s = with_corners area s (with_size area s)

-- the increments are known, in 10^-6 degree
abbrev pub has_known_steps : List ℕ → Bool
has_known_steps s = octets s 39 42 == 0 && not (octets s 64 67 == 4294967295) && not (octets s 68 71 == 4294967295)

-- they lead from the first row to the last, and from the first column to the last
abbrev pub has_rows : List ℕ → Bool
has_rows s = int_eq (latitude_at s (octets s 35 38 - 1)) (signed_octets s 56 59)

abbrev pub has_columns : List ℕ → Bool
has_columns s = longitude_at s (octets s 31 34 - 1) == octets s 60 63 % 360000000

abbrev pub has_steps : List ℕ → Bool
has_steps s = has_known_steps s && has_rows s && has_columns s

-- the octets from `first` to `last` are none of those from `low` to `high`
abbrev pub AreApart : ℕ → ℕ → ℕ → ℕ → Type 0
AreApart first last low high = (last < low) ⊎ (high < first)
