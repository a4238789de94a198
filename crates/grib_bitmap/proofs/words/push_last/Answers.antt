use Rattle.std.proofs.Common.{◌++◌, Bool, List, ap, ◌∙◌}
use Rattle.grib_bitmap.specs.Words.{bits_of_words}
use Rattle.grib_bitmap.proofs.WordBits.{bits_of_words_push, word_bits-shl}
use Rattle.grib_bitmap.proofs.words.push_last.Goals as goal

pub returns-in_ok-push : goal.returns-in_ok-push
returns-in_ok-push c =
    let old = c.args.words.now.items in
    ap bits_of_words c.in_ok-push.ensures.items ∙ bits_of_words_push old _
    ∙ ap (λ (xs : List Bool). bits_of_words old ++ xs) (word_bits-shl c.args.count c.args.bits c.if-count-gt0.true c.requires.short c.requires.fits)
