-- The numbers that a run keeps.
use Rattle.std.specs.Prelude.{ℕ, suc, zero, ℤ}
use Rattle.grib_packing.specs.Differences.{Last, NoNumber, One, Two}

-- what the next number follows, where as many numbers were told, and these are the last two: of order 1 one
-- number is told, and of order 2 two
abbrev pub last_of : ℕ → ℤ → ℤ → Last
last_of zero before last = NoNumber
last_of (suc zero) before last = One last
last_of (suc (suc n)) before last = Two before last
