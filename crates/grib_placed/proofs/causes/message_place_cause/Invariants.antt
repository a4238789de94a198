use Rattle.std.proofs.Common.{◌≡◌, ◌+◌, ◌<◌, ℕ, None}
use Rattle.grib_placed.specs.Causes.{field_place_cause}
use Rattle.grib_placed.proofs.causes.message_place_cause.Given as goal

-- none of the fields so far has a cause
abbrev pub invariant-loop-index : goal.invariant-loop-index
invariant-loop-index l = (j : ℕ) → j < l.index → field_place_cause l.message (1 + j) ≡ None
