-- Runs of zero blocks: blocks whose codes are all 0, the reference apart (CCSDS 121.0-B, zero-block option).
use Rattle.std.specs.Prelude.{ℕ, ◌-◌, ◌%◌, min, Bool, cond, nat_le}
use Rattle.grib_coding.specs.declared.coding.Coding.{Coding}

-- how many blocks a run can cover whose first one has this place in its interval: to the end of its segment of 64
-- blocks, and of its interval
abbrev pub run_room : Coding → ℕ → ℕ
run_room c place = min (c.interval - place) (64 - place % 64)

-- the number of a run of so many blocks, which may end with its segment, its interval or the last block
abbrev pub run_number : ℕ → Bool → ℕ
run_number blocks ends = cond (nat_le blocks 4) (blocks - 1) (cond ends 4 blocks)
