use Rattle.std.proofs.Common.{append_assoc, ap, ◌∙◌}
use Rattle.grib_command.proofs.notes.kept_note.Goals as goal

pub returns : goal.returns
returns c = ap (λ v. v.items) c.into_bytes.ensures.value ∙ (simp append_assoc c.in_ok-note.ensures.ok)
