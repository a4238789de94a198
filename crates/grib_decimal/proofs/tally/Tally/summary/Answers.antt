use Rattle.std.proofs.Common.{length, refl}
use Rattle.grib_decimal.proofs.Summaries.{all_summed}
use Rattle.grib_decimal.proofs.tally.Tally.summary.Goals as goal

pub returns : goal.returns
returns c = λ points few is. all_summed points c.args.self _ _ few refl (c.extremes_between.ensures points (length points) is.least_is is.greatest_is) is
