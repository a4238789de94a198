-- How far from 0 the numbers of further codes can come.
use Rattle.std.specs.Prelude.{◌≡◌, ℕ, ◌+◌, ◌*◌, ◌^◌, ◌≤◌, cond, ◌==◌, ℤ, ◌-ℤ◌, nat_abs}
use Rattle.grib_packing.specs.Differences.{Descriptors, Last, NoNumber, One, Two}
use Rattle.grib_complex_reading.specs.Running.{Run}

-- after this number, by `count` steps of at most this length
abbrev pub reach_by : ℤ → ℕ → ℕ → ℕ
reach_by last step count = nat_abs last + count * step

-- after these two numbers, by `count` codes that each make a difference of at most this size: the step
-- itself of order 1, and what a step is longer than the one before of order 2
abbrev pub reach_of : ℕ → ℤ → ℤ → ℕ → ℕ → ℕ
reach_of order before last size count =
    cond (order == 1) (reach_by last size count) (reach_by last (nat_abs (last -ℤ before) + count * size) count)

-- All first values were told, and by their reach `count` codes below the limit lead to no number outside
-- plus and minus 2 ^ 60.
abbrev pub IsSteadyAfter : Descriptors → Last → ℕ → ℕ → Type 0
IsSteadyAfter d NoNumber count limit = ⊥
IsSteadyAfter d (One last) count limit =
    (d.order ≡ 1) × (reach_of 1 last last (limit + nat_abs d.minimum) count ≤ 2 ^ 60)
IsSteadyAfter d (Two before last) count limit =
    (d.order ≡ 2) × (reach_of 2 before last (limit + nat_abs d.minimum) count ≤ 2 ^ 60)

abbrev pub IsSteady : Run → ℕ → ℕ → Type 0
IsSteady run count limit = IsSteadyAfter run.told run.last count limit
