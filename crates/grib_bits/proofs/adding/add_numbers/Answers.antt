use Rattle.std.proofs.Common.{arith}
use Rattle.grib_bits.proofs.AllOctets.{all_octets-step}
use Rattle.grib_bits.proofs.adding.add_numbers.Goals as goal

pub loop-number-preserved : goal.loop-number-preserved
loop-number-preserved c =
    all_octets-step c.args.numbers.now c.loop-number.number-index _ c.args.out.now.items _ _ (omega arith)
    c.loop-number.invariant c.in_ok-add_number.ensures
