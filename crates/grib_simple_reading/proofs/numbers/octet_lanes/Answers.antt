use Rattle.std.proofs.Common.{◌∙◌, take, drop, refl}
use Rattle.grib_bits.proofs.OctetNumbers.{AreOctets-known}
use Rattle.grib_simple_reading.proofs.Lanes.{map_same, plain_octets}
use Rattle.grib_simple_reading.proofs.numbers.octet_lanes.Goals as goal

pub returns : goal.returns
returns c =
    map_same _ (λ x. refl) (take 8 (drop c.args.at c.args.octets.now))
    ∙ plain_octets c.args.octets.now (AreOctets-known c.args.octets.now c.type_inv.octets) 8 c.args.at c.requires
