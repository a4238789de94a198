use Rattle.std.proofs.Common.{◌≡◌, ◌++◌, drop}
use Rattle.std.specs.Prelude.{string_bytes}
use Rattle.grib_keys.specs.Keys.{keys}
use Rattle.grib_text.specs.KeyLines.{words_text}
use Rattle.grib_text.proofs.second.write_words.Given as goal

-- what was written, and the words of the keys that are left, make the whole
abbrev pub invariant-loop-key : goal.invariant-loop-key
invariant-loop-key l =
    string_bytes l.line ++ words_text l.message l.field (drop l.key-index keys) ≡ string_bytes l.fn.line ++ words_text l.message l.field keys
