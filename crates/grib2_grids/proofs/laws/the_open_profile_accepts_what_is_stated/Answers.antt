use Rattle.grib_base.specs.declared.profile.Profile.TheVariants.{Open}
use Rattle.grib2_grids.proofs.Under.{grid_accepted}
use Rattle.grib2_grids.proofs.laws.the_open_profile_accepts_what_is_stated.Goals as goal

pub returns : goal.returns
returns c = λ s none. grid_accepted Open s none
