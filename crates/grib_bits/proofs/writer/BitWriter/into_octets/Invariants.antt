use Rattle.std.proofs.Common.{◌≡◌, ◌+◌, ◌*◌, ◌%◌, ◌<◌, ◌≤◌, vec_len, vec_capacity}
use Rattle.grib_bits.proofs.Writing.{written}
use Rattle.grib_bits.proofs.writer.BitWriter.into_octets.Given as goal

abbrev pub invariant-loop-count : goal.invariant-loop-count
invariant-loop-count l = record {
  same : written l.octets.items l.count l.word ≡ l.fn.self.bits;
  whole : l.count % 8 ≡ 0;
  below : l.count < 64;
  room : 8 * vec_len l.octets + l.count ≤ 8 * vec_capacity l.octets;
}

abbrev pub decreases-loop-count : goal.decreases-loop-count
decreases-loop-count l = l.count
