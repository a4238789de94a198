use Rattle.grib_dyadic.proofs.IeeeWords.{IsWordOf-some}
use Rattle.grib_dyadic.proofs.laws.ieee_numbers_have_words.Goals as goal

pub returns : goal.returns
returns c = λ v red has. let w = IsWordOf-some v red has in (w.0, w.1.in_word, w.1.finite, w.1.number)
