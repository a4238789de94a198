use Rattle.std.proofs.Common.{lit<}
use Rattle.grib_words.proofs.Parts.{nothing_asked1}
use Rattle.grib_words.proofs.wanted.wanted1_of.Goals as goal

pub returns-in_default : goal.returns-in_default
returns-in_default c = nothing_asked1 c.args.word.now (c.in_default.ensures.byte (lit< tt) (λ w o found. found))
