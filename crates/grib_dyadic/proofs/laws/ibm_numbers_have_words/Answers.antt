use Rattle.grib_dyadic.proofs.IbmWords.{ibm_word_of}
use Rattle.grib_dyadic.proofs.laws.ibm_numbers_have_words.Goals as goal

pub returns : goal.returns
returns c = ibm_word_of
