use Rattle.std.proofs.Common.{arith, ap, ◌∙◌, ℕ}
use Rattle.grib_bits.specs.Bits.{bits}
use Rattle.grib_simple_reading.specs.Part.{plain_from}
use Rattle.grib_simple_reading.proofs.Lanes.{pushed_eight}
use Rattle.grib_simple_reading.proofs.numbers.push_octets.Goals as goal

pub loop-eight-preserved : goal.loop-eight-preserved
loop-eight-preserved c =
    pushed_eight (bits c.args.octets.now) 8 c.loop-eight.eight c.octet_lanes-lanes.result c.args.numbers.now.items c.loop-eight.numbers.items c.extend_from_slice.new.self.items
    c.loop-eight.invariant (c.octet_lanes-lanes.ensures ∙ ap (λ (n : ℕ). plain_from (bits c.args.octets.now) 8 n 8) (omega arith)) c.in_ok-extend_from_slice.ensures.items
