use Rattle.grib_base.specs.declared.profile.Profile.TheVariants.{Open}
use Rattle.grib2_products.proofs.Under.{product_accepted}
use Rattle.grib2_products.proofs.laws.the_open_profile_accepts_what_is_stated.Goals as goal

pub returns : goal.returns
returns c = λ s n none. product_accepted Open s n none
