use Rattle.grib_dyadic.proofs.IeeeWords.{HasIeee-of_word}
use Rattle.grib_dyadic.proofs.laws.ieee_words_can_be_written.Goals as goal

pub returns : goal.returns
returns c = HasIeee-of_word
