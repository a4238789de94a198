use Rattle.std.proofs.Common.{lit<}
use Rattle.grib_words.proofs.Parts.{not_other}
use Rattle.grib_words.proofs.editions.is_other.Goals as goal

pub returns-in-None : goal.returns-in-None
returns-in-None c = not_other c.args.name.now c.args.word.now (c.in-None.ensures.byte (lit< tt) (λ w o found. found))
