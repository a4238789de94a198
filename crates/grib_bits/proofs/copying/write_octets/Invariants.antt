use Rattle.std.proofs.Common.{take}
use Rattle.grib_bits.specs.Encoding.{AddsOctets}
use Rattle.grib_bits.proofs.copying.write_octets.Given as goal

-- the octets so far are written
abbrev pub invariant-loop-octet : goal.invariant-loop-octet
invariant-loop-octet l = AddsOctets l.initial.out l.out (take l.octet-index l.octet-items)
