use Rattle.std.proofs.Common.{◌≡◌, ◌*◌, ◌^◌, ◌<◌, replicate}
use Rattle.grib_bits.specs.Bits.{bits_of}
use Rattle.grib_packing.specs.Packed.{fields}
use Rattle.grib_simple.proofs.repeated.repeated.Given as goal

abbrev pub invariant-loop-time : goal.invariant-loop-time
invariant-loop-time l = record {
  bits : bits_of (l._time * l.bits) l.word ≡ fields l.bits (replicate l._time l.number);
  fits : l.word < 2 ^ (l._time * l.bits);
}
