use Rattle.std.proofs.Common.{append_assoc}
use Rattle.grib_edit.proofs.splitting.part_name.Goals as goal

pub returns : goal.returns
returns c = simp append_assoc (rw c.as_str-out.ensures at c.format.ensures.ok)
