use Rattle.std.proofs.Common.{append-nil}
use Rattle.grib_help.proofs.telling.joined.Goals as goal

pub returns : goal.returns
returns c = simp append-nil c.in_ok-text.ensures.ok
