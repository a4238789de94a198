use Rattle.grib_dyadic.specs.Reference.{ieee, ibm}
use Rattle.grib_dyadic.proofs.Numbers.{SameNumber_trans}
use Rattle.grib_dyadic.proofs.IeeeWords.{IsWordOf-some}
use Rattle.grib_dyadic.proofs.laws.ibm_words_have_ieee_words.Goals as goal

pub returns : goal.returns
returns c = λ word v small red same has. let w = IsWordOf-some v red has in (w.0, w.1.in_word, w.1.finite, SameNumber_trans (ieee w.0) v (ibm word) w.1.number same)
