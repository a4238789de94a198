use Rattle.std.proofs.Common.{◌-◌}
use Rattle.grib_base.specs.declared.profile.Profile.TheVariants.{Open}
use Rattle.grib2_message.proofs.Ahead.{Copying}
use Rattle.grib2_message.proofs.assembling.put_sections.Given as goal

abbrev pub invariant-loop-section : goal.invariant-loop-section
invariant-loop-section g l = Copying Open (g.G.NewGrid.becomes l.grid) (g.G.NewGrid.takes l.grid) l.octets l.packed l.frame l.parts l.initial.out.items l.out.items

abbrev pub decreases-loop-section : goal.decreases-loop-section
decreases-loop-section g l = l.frame.total - l.frame.place
