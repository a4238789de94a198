use Rattle.grib_words.proofs.Single.{asks_the_number}
use Rattle.grib_words.proofs.laws.one_number_is_asked.Goals as goal

pub returns : goal.returns
returns c = asks_the_number
