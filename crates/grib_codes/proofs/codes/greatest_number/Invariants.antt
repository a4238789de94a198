use Rattle.std.proofs.Common.{◌≡◌, take}
use Rattle.grib_packing.specs.Groupings.{greatest, present_codes}
use Rattle.grib_codes.specs.Words.{codes_of}
use Rattle.grib_codes.proofs.codes.greatest_number.Given as goal

abbrev pub invariant-loop-word : goal.invariant-loop-word
invariant-loop-word l = l.most ≡ greatest (present_codes (codes_of 1 (take l.word-index l.words)))
