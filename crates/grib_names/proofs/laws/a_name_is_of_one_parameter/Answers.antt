use Rattle.grib_names.proofs.Meaning.{of_one}
use Rattle.grib_names.proofs.laws.a_name_is_of_one_parameter.Goals as goal

pub returns : goal.returns
returns c text table good = of_one text table good
