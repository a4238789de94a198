-- Codes that are the same, one after another.
use Rattle.std.specs.Prelude.{◌≡◌, ℕ, zero, suc, ◌+◌, ◌*◌, ◌/◌, false, cond, ◌==◌, ℤ, pos, ◌+ℤ◌, ◌-ℤ◌, ◌*ℤ◌}
use Rattle.grib_packing.specs.Differences.{is_beyond}
use Rattle.grib_complex_reading.specs.Running.{Run, after_code, next_of}

-- the run after this many of them
abbrev pub after_same : Run → ℕ → ℕ → Run
after_same run code zero = run
after_same run code (suc count) = after_same (after_code run code) code count

-- none of their numbers is outside plus and minus 2 ^ 60
abbrev pub StaysWithin : Run → ℕ → ℕ → Type 0
StaysWithin run code zero = Unit {0}
StaysWithin run code (suc count) = (is_beyond (next_of run code) ≡ false) × StaysWithin (after_code run code) code count

-- a number after some steps, the k-th of which is longer by k growths than this one
abbrev pub moved_by : ℤ → ℤ → ℤ → ℕ → ℤ
moved_by last step growth count = (last +ℤ (pos count *ℤ step)) +ℤ (pos (count * (count + 1) / 2) *ℤ growth)

-- the step before, and how much longer each is than the one before, where the differences are all the same
abbrev pub step_of : ℕ → ℤ → ℤ → ℤ → ℤ
step_of order before last difference = cond (order == 1) difference (last -ℤ before)

abbrev pub growth_of : ℕ → ℤ → ℤ
growth_of order difference = cond (order == 1) (pos 0) difference

-- the number after some of them
abbrev pub number_after : ℕ → ℤ → ℤ → ℤ → ℕ → ℤ
number_after order before last difference count = moved_by last (step_of order before last difference) (growth_of order difference) count
