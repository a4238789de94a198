use Rattle.std.proofs.Common.{sym, ◌∙◌}
use Rattle.grib_help.proofs.faults.key_reason.Goals as goal

pub returns : goal.returns
returns c = rw (sym c.is_any_key.ensures ∙ c.if-is_any_key.false, sym c.in_ok-nearest.ensures) c.no_such.ensures
