-- Numbers that are undone one after another.
use Rattle.std.specs.Prelude.{ℕ, cond, ◌==◌, ℤ, pos, ◌+ℤ◌, ◌-ℤ◌, ◌*ℤ◌}
use Rattle.grib_packing.specs.Differences.{Descriptors, Last, next_number, last_after}

-- what the codes are read with, and what the next number follows
pub record Run : Type 0 where
  pub told : Descriptors
  pub last : Last

-- the next number by its code
abbrev pub next_of : Run → ℕ → ℤ
next_of run code = next_number run.told run.last code

-- the number that makes this difference of order 1 or 2 with the last two
abbrev pub number_by : ℕ → ℤ → ℤ → ℤ → ℤ
number_by order difference before last =
    cond (order == 1) (difference +ℤ last) ((difference +ℤ (pos 2 *ℤ last)) -ℤ before)

-- the run after it
abbrev pub after_code : Run → ℕ → Run
after_code run code = record { told = run.told; last = last_after run.told run.last (next_of run code) }

-- a run that a number of further codes below the limit cannot lead out of the range
pub record SteadyRun : Type 0 where
  pub run : Run
  pub left : ℕ
  pub limit : ℕ
