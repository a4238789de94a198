use Rattle.grib_dyadic.proofs.IbmWords.{HasIbm-of_word}
use Rattle.grib_dyadic.proofs.laws.ibm_words_can_be_written.Goals as goal

pub returns : goal.returns
returns c = HasIbm-of_word
