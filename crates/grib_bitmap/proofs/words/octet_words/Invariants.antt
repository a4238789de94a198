use Rattle.std.proofs.Common.{◌≡◌, ◌*◌, take}
use Rattle.grib_bits.specs.Bits.{bits}
use Rattle.grib_bitmap.specs.Words.{bits_of_words}
use Rattle.grib_bitmap.proofs.words.octet_words.Given as goal

abbrev pub invariant-loop-index : goal.invariant-loop-index
invariant-loop-index l = bits_of_words l.words.items ≡ take (64 * l.index) (bits l.octets)
