use Rattle.std.proofs.Common.{lit<}
use Rattle.grib_words.proofs.Parts.{unnamed}
use Rattle.grib_words.proofs.reading.is_named.Goals as goal

pub returns-in-None : goal.returns-in-None
returns-in-None c = unnamed c.args.name.now c.args.word.now (c.in-None.ensures.byte (lit< tt) (λ w o found. found))
