use Rattle.std.proofs.Common.{◌≡◌, ◌+◌, ◌*◌, ◌++◌, take}
use Rattle.grib_bitmap.specs.Words.{bits_of_words}
use Rattle.grib_bitmap.proofs.mask.write_mask.Given as goal

abbrev pub invariant-loop-index : goal.invariant-loop-index
invariant-loop-index l = record {
  bits : l.out.bits ≡ l.initial.out.bits ++ bits_of_words (take l.index l.mask-inside.words.items);
  spare : l.out.spare + 64 * l.index ≡ l.initial.out.spare;
}
