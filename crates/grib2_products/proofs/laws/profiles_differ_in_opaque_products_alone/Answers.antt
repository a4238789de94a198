use Rattle.grib_base.specs.declared.profile.Profile.TheVariants.{Open}
use Rattle.grib2_products.proofs.Under.{same_product_rules}
use Rattle.grib2_products.proofs.laws.profiles_differ_in_opaque_products_alone.Goals as goal

pub returns : goal.returns
returns c = λ s n stated. same_product_rules Open s n stated
