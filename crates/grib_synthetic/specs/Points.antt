-- The field that is made from a number: a slope that rises and falls, under noise, with about one point
-- in a hundred missing. Which field is made is a choice of ours.
use Rattle.std.specs.Prelude.{ℕ, zero, suc, ◌+◌, ◌-◌, ◌*◌, ◌/◌, ◌%◌, ◌^◌, min, cond, ◌==◌, List, map, pos}
use Rattle.std.specs.List.{range_with_len}
use Rattle.grib_packing.specs.declared.column.Point.{Point}
use Rattle.grib_packing.specs.declared.column.Point.TheVariants.{Scaled, Missing}
use Rattle.grib_packing.specs.declared.column.Column.{Column}

-- the n-th random number; the seed is the one before the first
abbrev pub random : ℕ → ℕ → ℕ
random seed zero = seed
random seed (suc n) = (1103515245 * random seed n + 12345) % 2 ^ 31

-- the slope at place i of row j, both from 0: it rises to 255 and falls again
abbrev pub slope : ℕ → ℕ → ℕ
slope i j = let u = (i + j) % 512 in min u (511 - u)

-- a point there, with the noise r
abbrev pub point_with : ℕ → ℕ → ℕ → Point
point_with r i j = cond (r % 101 == 0) Missing (Scaled (pos (64 * slope i j + r % 64)))

-- grid point n, from 1, where each row has ni points
abbrev pub made_point : ℕ → ℕ → ℕ → Point
made_point seed ni n = point_with (random seed n / 65536) ((n - 1) % ni) ((n - 1) / ni)

-- nj rows of ni points
abbrev pub made_points : ℕ → ℕ → ℕ → List Point
made_points seed ni nj = map (made_point seed ni) (range_with_len 1 (ni * nj))

-- with R = -118.625, E = -3 and D = 1, by the octets of Section 5
abbrev pub made_column : ℕ → ℕ → ℕ → Column
made_column seed ni nj = record { reference = 0xC2ED4000; e = 0x8003; d = 0x0001; points = made_points seed ni nj }
