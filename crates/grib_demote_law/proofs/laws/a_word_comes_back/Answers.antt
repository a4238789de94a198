use Rattle.std.proofs.Common.{ap}
use Rattle.std.specs.Prelude.{is_none}
use Rattle.grib_demote_law.proofs.Words.{comes_back}
use Rattle.grib_demote_law.proofs.laws.a_word_comes_back.Goals as goal

pub returns : goal.returns
returns c = λ word other small is. (let known = comes_back word other small is in (known.in_word, ap is_none known.is_back))
