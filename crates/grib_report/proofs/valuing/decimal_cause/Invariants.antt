use Rattle.std.proofs.Common.{◌≡◌, ◌+◌, ◌<◌, ℕ, None}
use Rattle.grib_report.specs.Valuing.{field_cause}
use Rattle.grib_report.proofs.valuing.decimal_cause.Given as goal

-- none of the fields so far has a cause
abbrev pub invariant-loop-index : goal.invariant-loop-index
invariant-loop-index l = (j : ℕ) → j < l.index → field_cause l.places l.message (1 + j) ≡ None
