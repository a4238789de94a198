use Rattle.std.proofs.Common.{◌/◌, arith}
use Rattle.grib_bits.proofs.OctetNumbers.{AreOctets-known}
use Rattle.grib_simple_reading.proofs.Lanes.{plain_pairs}
use Rattle.grib_simple_reading.proofs.numbers.pair_lanes.Goals as goal

pub returns : goal.returns
returns c =
    plain_pairs c.args.octets.now (AreOctets-known c.args.octets.now c.type_inv.octets) 8 (c.args.at / 2) c.args.at (omega (arith, c.requires.even)) c.requires.within
