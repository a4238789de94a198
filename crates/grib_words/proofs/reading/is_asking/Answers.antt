use Rattle.std.proofs.Common.{lit<}
use Rattle.grib_words.proofs.Parts.{unasking}
use Rattle.grib_words.proofs.reading.is_asking.Goals as goal

pub returns-in-None : goal.returns-in-None
returns-in-None c = unasking c.args.word.now (c.in-None.ensures.byte (lit< tt) (λ w o found. found))
