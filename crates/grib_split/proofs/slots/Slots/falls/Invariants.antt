use Rattle.std.proofs.Common.{ℕ, ◌+◌, ◌<◌, ◌≤◌}
use Rattle.grib_split.specs.Runs.{after_of}
use Rattle.grib_split.proofs.slots.Slots.falls.Given as goal

abbrev pub invariant-loop-length : goal.invariant-loop-length
invariant-loop-length l = (n : ℕ) → 1 ≤ n → n < l.length → after_of l.self l.at (n + 1) ≤ after_of l.self l.at n
