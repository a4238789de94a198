use Rattle.grib_dyadic.proofs.IeeeWords.{ieee_once}
use Rattle.grib_dyadic.proofs.laws.ieee_words_are_unique.Goals as goal

pub returns : goal.returns
returns c = ieee_once
