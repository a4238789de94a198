use Rattle.grib_words.proofs.Printed.{word_is_read, word_picks}
use Rattle.grib_words.proofs.laws.printed_words_pick_their_field.Goals as goal

pub returns : goal.returns
returns c = record { read = word_is_read; picked = word_picks }
