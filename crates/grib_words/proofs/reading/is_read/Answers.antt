use Rattle.std.proofs.Common.{lit<, map, string_bytes}
use Rattle.grib_words.proofs.Parts.{unread}
use Rattle.grib_words.proofs.reading.is_read.Goals as goal

pub returns-in-None : goal.returns-in-None
returns-in-None c =
    unread c.args.command (map string_bytes c.args.earlier.now) c.args.word.now (c.in-None.ensures.byte (lit< tt) (λ w o found. found))
