use Rattle.grib_dyadic.proofs.Reduced.{reduced_once}
use Rattle.grib_dyadic.proofs.laws.reduced_forms_are_unique.Goals as goal

pub returns : goal.returns
returns c = reduced_once
