use Rattle.std.proofs.Common.{◌≡◌, ◌∷◌, take}
use Rattle.grib_packing.specs.Groupings.{greatest, smallest}
use Rattle.grib_codes.proofs.codes.ends.Given as goal

abbrev pub invariant-loop-word : goal.invariant-loop-word
invariant-loop-word l = record {
  least : l.least ≡ smallest (4294967295 ∷ take l.word-index l.words);
  most : l.most ≡ greatest (take l.word-index l.words);
}
