use Rattle.std.proofs.Common.{◌≡◌, vec_len}
use Rattle.grib_bits.specs.Listed.{numbers_at}
use Rattle.grib_bits.proofs.list.read_list.Given as goal

abbrev pub invariant-loop-index : goal.invariant-loop-index
invariant-loop-index l = record {
  numbers : l.numbers.items ≡ numbers_at l.octets l.first l.size l.index;
  count : vec_len l.numbers ≡ l.index;
}
