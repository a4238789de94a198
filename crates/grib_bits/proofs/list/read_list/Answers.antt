use Rattle.std.proofs.Common.{arith}
use Rattle.grib_bits.specs.Listed.{number_at}
use Rattle.grib_bits.proofs.Listed.{one_more}
use Rattle.grib_bits.proofs.list.read_list.Goals as goal

pub loop-index-preserved : goal.loop-index-preserved
loop-index-preserved c = record {
  numbers = one_more (number_at c.args.octets.now c.args.first c.args.size) c.loop-index.index c.uint_at.result c.loop-index.numbers.items c.push.new.self.items
      c.loop-index.invariant.numbers c.uint_at.ensures c.in_ok-push.ensures.items;
  count = omega (arith, c.in_ok-push.ensures.len);
}
