use Rattle.std.proofs.Common.{lit<}
use Rattle.grib_words.proofs.Parts.{not_first}
use Rattle.grib_words.proofs.editions.is_of_first.Goals as goal

pub returns-in-None : goal.returns-in-None
returns-in-None c = not_first c.args.word.now (c.in-None.ensures.byte (lit< tt) (λ w o found. found))
