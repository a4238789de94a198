use Rattle.std.proofs.Common.{◌≡◌, ◌-◌, ◌≤◌, drop}
use Rattle.grib_bits.specs.Bits.{bits}
use Rattle.grib_coding.specs.Reading.{front_sequence}
use Rattle.grib_block_reading.proofs.Places.{behind_zeros}
use Rattle.grib_block_reading.proofs.bits_left.zeros_from.Given as goal

abbrev pub invariant-loop-place : goal.invariant-loop-place
invariant-loop-place l = record {
  behind : l.at ≤ l.place;
  within : l.place ≤ l.end;
  zeros : front_sequence (drop l.at (bits l.octets)) ≡ behind_zeros (l.place - l.at) (front_sequence (drop l.place (bits l.octets)));
}

abbrev pub decreases-loop-place : goal.decreases-loop-place
decreases-loop-place l = l.end - l.place
