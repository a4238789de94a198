use Rattle.grib_params.proofs.Spelling.{one_spelling}
use Rattle.grib_params.proofs.laws.a_number_has_one_spelling.Goals as goal

pub returns : goal.returns
returns c first second number p q = one_spelling first second number p q
