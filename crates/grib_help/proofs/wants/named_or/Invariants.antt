use Rattle.std.proofs.Common.{◌≡◌, [], map, string_bytes, take}
use Rattle.std.specs.List.{fold}
use Rattle.grib_help.specs.Helping.{with_wanted}
use Rattle.grib_help.proofs.wants.named_or.Given as goal

abbrev pub invariant-loop-name : goal.invariant-loop-name
invariant-loop-name l = string_bytes l.text ≡ fold (with_wanted (map string_bytes l.words)) [] (map (λ name. name.now) (take l.name-index l.names))
