-- Section 2, the grid description section (WMO-No. 306, Volume I.2, FM 92 GRIB edition 1, code table 6:
-- 0 latitude and longitude, 1 Mercator, 3 Lambert, 4 Gaussian, 5 polar stereographic).
use Rattle.std.specs.Prelude.{ℕ, ◌+◌, ◌-◌, ◌*◌, Bool, not, cond, ◌&&◌, ◌||◌, List, [], ◌∷◌, length, nat_lt, ◌==◌, sum}
use Rattle.std.specs.List.{list_any}
use Rattle.grib_bits.specs.Octets.{octets}
use Rattle.grib_bits.specs.Listed.{numbers_at}
use Rattle.grib_base.specs.declared.fault.Reason.TheVariants.{SectionLength, GridType, PointCount, ListShape}
use Rattle.grib_base.specs.declared.limits.TheConstants.{MOST_POINTS}
use Rattle.grib_base.specs.Rules.{Rule, rule}
use Rattle.grib2_sections.specs.Template.{Template, template, is_template, least_length}

-- the types of grid of the profile, each with its least length in octets
abbrev pub grid_types : List Template
grid_types = template 0 32 ∷ template 1 34 ∷ template 3 40 ∷ template 4 32 ∷ template 5 32 ∷ []

-- The numbers of Section 2 that decide acceptance, by their octets. NV is the number of vertical
-- coordinates; octet 5 says where the lists stand, 255 for none.
abbrev pub nv : List ℕ → ℕ
nv s = octets s 4 4

abbrev pub list_place : List ℕ → ℕ
list_place s = octets s 5 5

abbrev pub grid_type : List ℕ → ℕ
grid_type s = octets s 6 6

abbrev pub ni : List ℕ → ℕ
ni s = octets s 7 8

abbrev pub nj : List ℕ → ℕ
nj s = octets s 9 10

-- where Ni is 65535, the numbers of points of the rows stand in a list
abbrev pub lists_rows : List ℕ → Bool
lists_rows s = ni s == 65535

-- whether a list stands at octet 5
abbrev pub has_list : List ℕ → Bool
has_list s = not (list_place s == 255) && (nat_lt 0 (nv s) || lists_rows s)

-- how many numbers of points the list has
abbrev pub row_count : List ℕ → ℕ
row_count s = cond (lists_rows s) (nj s) 0

-- the list of rows: numbers of two octets each, after NV words of four octets
abbrev pub row_list : List ℕ → List ℕ
row_list s = numbers_at s (list_place s + 4 * nv s) 2 (row_count s)

-- the last octet of the lists
abbrev pub lists_end : List ℕ → ℕ
lists_end s = list_place s - 1 + 4 * nv s + 2 * row_count s

-- the number of grid points
abbrev pub grid_points : List ℕ → ℕ
grid_points s = cond (lists_rows s) (sum (row_list s)) (ni s * nj s)

-- whether the rows of a grid of this type have the same number of points each
abbrev pub is_regular : ℕ → Bool
is_regular t = list_any (λ n. n == t) (1 ∷ 3 ∷ 5 ∷ [])

-- rules B2.1 to B2.7
abbrev pub grid_rules : List ℕ → List Rule
grid_rules s =
    let l = length s in
    let t = grid_type s in
    let least = least_length grid_types t in
    let place = list_place s in
    let points = grid_points s in
    rule (not (is_template grid_types t)) 6 GridType t  -- B2.1
    ∷ rule (nat_lt l least) 1 SectionLength l  -- B2.2
    ∷ rule (nj s == 65535) 9 ListShape 65535  -- B2.3
    ∷ rule (lists_rows s && is_regular t) 7 ListShape 65535  -- B2.4
    ∷ rule (lists_rows s && (place == 255)) 5 ListShape 255  -- B2.5
    ∷ rule (has_list s && (not (nat_lt least place) || nat_lt l (lists_end s))) 5 ListShape place  -- B2.6
    ∷ rule (points == 0 || nat_lt MOST_POINTS points) 7 PointCount points  -- B2.7
    ∷ []
