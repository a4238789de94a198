use Rattle.grib_same.proofs.Differences.{none_means, means_none}
use Rattle.grib_same.proofs.laws.no_difference_is_the_same_meaning.Goals as goal

pub returns : goal.returns
returns c = λ ps qs long. (none_means 1 ps qs long, means_none 1 ps qs)
