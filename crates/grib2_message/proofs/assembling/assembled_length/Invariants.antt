use Rattle.std.proofs.Common.{◌-◌}
use Rattle.grib_base.specs.declared.profile.Profile.TheVariants.{Open}
use Rattle.grib2_message.proofs.Ahead.{Counting}
use Rattle.grib2_message.proofs.assembling.assembled_length.Given as goal

abbrev pub invariant-loop-section : goal.invariant-loop-section
invariant-loop-section l = Counting Open l.octets l.packed l.frame l.parts l.total

abbrev pub decreases-loop-section : goal.decreases-loop-section
decreases-loop-section l = l.frame.total - l.frame.place
