use Rattle.std.proofs.Common.{refl, ◌∙◌}
use Rattle.grib_bits.specs.Bits.{bits}
use Rattle.grib_simple_reading.proofs.Lanes.{numbers_both}
use Rattle.grib_simple_reading.proofs.numbers.unpack_numbers.Goals as goal

pub returns : goal.returns
returns c =
    numbers_both (bits c.args.octets.now) c.args.bits c.in_ok-from.from c.args.count c.in_ok-numbers.numbers.items c.push_lanes.new.numbers.items c.push_numbers.new.items.items
    c.in_ok-from.ensures.0 c.in_ok-from.ensures.1 c.in_ok-push_numbers.ensures
    ∙ rw c.in_ok-numbers.ensures.items refl
