use Rattle.std.proofs.Common.{◌≡◌, ◌^◌, ◌<◌, take}
use Rattle.grib_bits.specs.Bits.{bits_of}
use Rattle.grib_packing.specs.Packed.{present_bits}
use Rattle.grib_simple.proofs.writing.present_word.Given as goal

abbrev pub invariant-loop-point : goal.invariant-loop-point
invariant-loop-point l = record {
  bits : bits_of l.point-index l.word ≡ present_bits (take l.point-index l.points);
  fits : l.word < 2 ^ l.point-index;
}
