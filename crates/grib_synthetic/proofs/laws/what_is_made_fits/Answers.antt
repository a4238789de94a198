use Rattle.grib_synthetic.proofs.Fitting.{made_may_be_packed, made_fits}
use Rattle.grib_synthetic.proofs.laws.what_is_made_fits.Goals as goal

pub returns : goal.returns
returns c = record { may_be_packed = made_may_be_packed; fits = made_fits }
