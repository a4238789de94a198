use Rattle.std.proofs.Common.{◌≡◌, string_bytes, map}
use Rattle.std.specs.List.{concat}
use Rattle.grib_topics.specs.Shown.{shown_char}
use Rattle.grib_topics.proofs.escaped.shown.Given as goal

abbrev pub invariant-loop-c : goal.invariant-loop-c
invariant-loop-c l = string_bytes l.line ≡ concat (map shown_char l.yielded)
