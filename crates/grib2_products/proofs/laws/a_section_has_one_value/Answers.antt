use Rattle.grib2_products.proofs.Unique.{same_section}
use Rattle.grib2_products.proofs.laws.a_section_has_one_value.Goals as goal

pub returns : goal.returns
returns c = λ value other s h g. same_section value other s h g
