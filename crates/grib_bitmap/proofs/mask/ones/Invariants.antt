use Rattle.std.proofs.Common.{◌≡◌, take}
use Rattle.grib_bitmap.specs.Mask.{present_count}
use Rattle.grib_bitmap.specs.Words.{bits_of_words}
use Rattle.grib_bitmap.proofs.mask.ones.Given as goal

abbrev pub invariant-loop-word : goal.invariant-loop-word
invariant-loop-word l = l.ones ≡ present_count (bits_of_words (take l.word-index l.word-items))
