use Rattle.grib2_grids.proofs.Unique.{same_section}
use Rattle.grib2_grids.proofs.laws.a_section_has_one_value.Goals as goal

pub returns : goal.returns
returns c = λ value other s h g. same_section value other s h g
