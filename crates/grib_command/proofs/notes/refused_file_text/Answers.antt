use Rattle.std.proofs.Common.{append_assoc}
use Rattle.grib_command.proofs.notes.refused_file_text.Goals as goal

pub returns : goal.returns
returns c = simp append_assoc c.in_ok-text.ensures.ok
