use Rattle.grib2_message.proofs.Latest.{represents, is_read}
use Rattle.grib2_message.proofs.in_force.InForce.representation.Goals as goal

pub unreachable-requires : goal.unreachable-requires
unreachable-requires c = is_read c.requires.0 c.args.self.now c.requires.1 c.requires.2 c.in-None.is

pub returns : goal.returns
returns c = λ before h. represents before c.args.self.now c.in-Some.representation h c.in-Some.is
