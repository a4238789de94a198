use Rattle.std.proofs.Common.{◌≡◌, ◌++◌, drop}
use Rattle.std.specs.Prelude.{string_bytes}
use Rattle.grib_keys.specs.Keys1.{keys1}
use Rattle.grib_text.specs.KeyLines.{numbers_text}
use Rattle.grib_text.proofs.first.write_numbers.Given as goal

-- what was written, and the numbers that are left, make the whole
abbrev pub invariant-loop-key : goal.invariant-loop-key
invariant-loop-key l =
    string_bytes l.line ++ numbers_text l.message (drop l.key-index keys1) ≡ string_bytes l.fn.line ++ numbers_text l.message keys1
