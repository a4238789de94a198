use Rattle.grib_base.specs.declared.profile.Profile.TheVariants.{Open}
use Rattle.grib2_grids.proofs.Under.{same_grid_rules}
use Rattle.grib2_grids.proofs.laws.profiles_differ_in_opaque_grids_alone.Goals as goal

pub returns : goal.returns
returns c = λ s stated. same_grid_rules Open s stated
