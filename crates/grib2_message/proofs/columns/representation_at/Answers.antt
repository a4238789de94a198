use Rattle.std.proofs.Common.{arith}
use Rattle.grib2_message.proofs.columns.representation_at.Goals as goal

pub representation-requires : goal.representation-requires
representation-requires c = (c.requires.1, c.requires.2.stand.force, omega (arith, c.requires.2.ends))
