-- A grid of 2 by 2 points, from 50 to 49 degrees north and from 10 to 11 degrees east, and its points.
use Rattle.std.specs.Prelude.{ℕ, List, [], ◌∷◌, ◌++◌, replicate, pos}
use Rattle.grib_packing.specs.declared.column.Point.{Point}
use Rattle.grib_packing.specs.declared.column.Point.TheVariants.{Scaled}
use Rattle.grib_rescan.specs.declared.points.Area.{Area}

abbrev pub north : List ℕ
north = 0x02 ∷ 0xfa ∷ 0xf0 ∷ 0x80 ∷ []

abbrev pub south : List ℕ
south = 0x02 ∷ 0xeb ∷ 0xae ∷ 0x40 ∷ []

abbrev pub west : List ℕ
west = 0x00 ∷ 0x98 ∷ 0x96 ∷ 0x80 ∷ []

abbrev pub east : List ℕ
east = 0x00 ∷ 0xa7 ∷ 0xd8 ∷ 0xc0 ∷ []

-- 90 and 270 degrees, and the meridian of Greenwich
abbrev pub quarter : List ℕ
quarter = 0x05 ∷ 0x5d ∷ 0x4a ∷ 0x80 ∷ []

abbrev pub last_quarter : List ℕ
last_quarter = 0x10 ∷ 0x17 ∷ 0xdf ∷ 0x80 ∷ []

abbrev pub greenwich : List ℕ
greenwich = 0 ∷ 0 ∷ 0 ∷ 0 ∷ []

abbrev pub one_degree : List ℕ
one_degree = 0x00 ∷ 0x0f ∷ 0x42 ∷ 0x40 ∷ []

-- a Section 3 with these increments, this many points, columns and rows, these corners and this scanning octet
abbrev pub grid_by : List ℕ → List ℕ → ℕ → ℕ → ℕ → List ℕ → List ℕ → List ℕ → List ℕ → ℕ → List ℕ
grid_by di dj points ni nj la1 lo1 la2 lo2 scanning =
    0 ∷ 0 ∷ 0 ∷ 72 ∷ 3 ∷ 0 ∷ 0 ∷ 0 ∷ 0 ∷ points ∷ 0 ∷ 0 ∷ 0 ∷ 0 ∷ 6
    ∷ (replicate 15 255 ++ (0 ∷ 0 ∷ 0 ∷ ni ∷ 0 ∷ 0 ∷ 0 ∷ nj ∷ 0 ∷ 0 ∷ 0 ∷ 0 ∷ 255 ∷ 255 ∷ 255 ∷ 255
    ∷ (la1 ++ (lo1 ++ (48 ∷ (la2 ++ (lo2 ++ (di ++ (dj ++ scanning ∷ [])))))))))

-- that of the grid
abbrev pub grid : ℕ → ℕ → ℕ → List ℕ → List ℕ → List ℕ → List ℕ → ℕ → List ℕ
grid = grid_by one_degree one_degree

-- four columns of 90 degrees in one row, and the last of them with the first
abbrev pub round : List ℕ
round = grid_by quarter one_degree 4 4 1 north greenwich north last_quarter 0

abbrev pub half_round : List ℕ
half_round = grid_by quarter one_degree 2 2 1 north last_quarter north greenwich 0

abbrev pub points_of : ℕ → ℕ → ℕ → ℕ → List Point
points_of a b c d = Scaled (pos a) ∷ Scaled (pos b) ∷ Scaled (pos c) ∷ Scaled (pos d) ∷ []

abbrev pub area_of : ℕ → ℕ → ℕ → ℕ → Area
area_of i0 i1 j0 j1 = record { i0 = i0; i1 = i1; j0 = j0; j1 = j1 }
