use Rattle.std.proofs.Common.{◌≡◌, map, string_bytes, take}
use Rattle.grib_help.specs.Helping.{spaced}
use Rattle.grib_help.proofs.telling.spaced.Given as goal

abbrev pub invariant-loop-word : goal.invariant-loop-word
invariant-loop-word l = string_bytes l.text ≡ spaced (map string_bytes (take l.word-index l.words))
