use Rattle.std.proofs.Common.{sym, ◌∙◌}
use Rattle.grib_help.proofs.faults.named_reason.Goals as goal

pub returns-then-takes : goal.returns-then-takes
returns-then-takes c = rw (sym c.takes.ensures ∙ c.if-takes.true, sym c.beside.ensures) c.joined.ensures
