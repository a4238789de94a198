use Rattle.std.proofs.Common.{sym, ◌∙◌}
use Rattle.grib_help.proofs.faults.name_reason.Goals as goal

pub returns-then-is_filtered : goal.returns-then-is_filtered
returns-then-is_filtered c =
    rw (sym c.is_filtered.ensures ∙ c.if-is_filtered.true, sym c.name-told.ensures, sym (c.as_str.ensures.value ∙ c.in_ok-word.ensures)) c.joined-then-is_filtered.ensures

pub returns : goal.returns
returns c = rw (sym c.is_filtered.ensures ∙ c.if-is_filtered.false, sym c.name-told.ensures) c.joined-2.ensures
