use Rattle.grib_words.proofs.Single.{asks_the_value}
use Rattle.grib_words.proofs.laws.one_value_is_asked.Goals as goal

pub returns : goal.returns
returns c = asks_the_value
