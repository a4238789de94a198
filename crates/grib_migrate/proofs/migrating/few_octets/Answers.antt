use Rattle.std.proofs.Common.{arith}
use Rattle.grib_bits.proofs.OctetNumbers.{AreOctets-known}
use Rattle.grib_migrate.proofs.Sections.{short}
use Rattle.grib_migrate.proofs.migrating.few_octets.Goals as goal

pub returns : goal.returns
returns c =
    let long = c.requires.long in
    short c.args.section1.now (omega (arith, long)) (AreOctets-known c.args.section1.now c.type_inv.section1) c.requires.stands
