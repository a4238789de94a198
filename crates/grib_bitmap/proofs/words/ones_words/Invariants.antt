use Rattle.std.proofs.Common.{◌≡◌, ◌*◌, replicate, true}
use Rattle.grib_bitmap.specs.Words.{bits_of_words}
use Rattle.grib_bitmap.proofs.words.ones_words.Given as goal

abbrev pub invariant-loop-whole : goal.invariant-loop-whole
invariant-loop-whole l = bits_of_words l.words.items ≡ replicate (64 * l._whole) true
