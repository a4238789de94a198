-- Grids of some points, and words of binary64. The words were worked out with Python: `struct.pack(">d", n / d)`, which
-- rounds the exact quotient of whole numbers.
use Rattle.std.specs.Prelude.{ℕ, ℤ, List, [], ◌∷◌, map}
use Rattle.std.specs.List.{range_with_len}
use Rattle.grib_rescan.specs.Sections.{with_octets}
use Rattle.grib_places.specs.declared.coordinate.Coordinate.{Coordinate}
use Rattle.grib_places.specs.Degrees.{degrees_word, micro_degrees}
use Rattle.grib_places.specs.Places.{point_degrees}

-- so many 10^-6 degree
abbrev pub few : ℕ → List ℕ
few n = 0 ∷ 0 ∷ 0 ∷ n ∷ []

-- 359.5 degrees, and half a degree
abbrev pub before_greenwich : List ℕ
before_greenwich = 0x15 ∷ 0x6d ∷ 0x88 ∷ 0xe0 ∷ []

abbrev pub half : List ℕ
half = 0x00 ∷ 0x07 ∷ 0xa1 ∷ 0x20 ∷ []

-- one degree, and one degree to the south or the west
abbrev pub one : List ℕ
one = 0x00 ∷ 0x0f ∷ 0x42 ∷ 0x40 ∷ []

abbrev pub minus_one : List ℕ
minus_one = 0x80 ∷ 0x0f ∷ 0x42 ∷ 0x40 ∷ []

-- a grid with another basic angle
abbrev pub with_angle : ℕ → List ℕ → List ℕ
with_angle angle s = with_octets 39 (few angle) s

-- the latitudes or the longitudes of the first points of a grid, as words, and in 10^-6 degree
abbrev pub words_of : Coordinate → List ℕ → ℕ → List ℕ
words_of coordinate s points = map (λ p. degrees_word (point_degrees coordinate s p)) (range_with_len 0 points)

abbrev pub micros_of : Coordinate → List ℕ → ℕ → List ℤ
micros_of coordinate s points = map (λ p. micro_degrees (point_degrees coordinate s p)) (range_with_len 0 points)
