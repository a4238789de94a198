use Rattle.std.proofs.Common.{◌≡◌, take, string_bytes}
use Rattle.std.specs.List.{filter_map}
use Rattle.grib_words.specs.Words.{wanted_of}
use Rattle.grib_words.proofs.wanted.conditions_of.Given as goal

-- the conditions of the words so far
abbrev pub invariant-loop-word : goal.invariant-loop-word
invariant-loop-word l = l.conditions.items ≡ filter_map (λ word. wanted_of (string_bytes word)) (take l.word-index l.words)
