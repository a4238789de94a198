use Rattle.std.proofs.Common.{refl}
use Rattle.grib2_message.proofs.Sound.{sound_none}
use Rattle.grib2_message.proofs.in_force.InForce.new.Goals as goal

pub returns-clause-force : goal.returns-clause-force
returns-clause-force c = record { points = refl; representation = tt; bitmap = tt; fields = refl; sound = sound_none c.args.profile }
