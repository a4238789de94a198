use Rattle.std.proofs.Common.{◌*◌, take}
use Rattle.grib_bits.specs.Encoding.{AddsOctets}
use Rattle.grib_bits.proofs.copying.write_words.Given as goal

-- the words so far are written
abbrev pub invariant-loop-word : goal.invariant-loop-word
invariant-loop-word l = AddsOctets l.initial.out l.out (take (8 * l.word) l.octets)
