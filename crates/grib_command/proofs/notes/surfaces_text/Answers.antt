use Rattle.std.proofs.Common.{append_assoc}
use Rattle.grib_command.proofs.notes.surfaces_text.Goals as goal

pub returns-in-Row : goal.returns-in-Row
returns-in-Row c = rw c.in-Row.is (simp append_assoc c.format-in-Row.ensures.ok)

pub returns-in-Duplicate : goal.returns-in-Duplicate
returns-in-Duplicate c = rw c.in-Duplicate.is (simp append_assoc c.format-in-Duplicate.ensures.ok)
