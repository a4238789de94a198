use Rattle.std.proofs.Common.{arith}
use Rattle.grib_bits.proofs.OctetNumbers.{AreOctets-known}
use Rattle.grib_migrate.proofs.Sections.{short}
use Rattle.grib_migrate.proofs.values.add_data.Goals as goal

pub add_section_head-requires : goal.add_section_head-requires
add_section_head-requires c =
    let head = c.requires.head in
    let few = short c.args.section4.now (omega arith) (AreOctets-known c.args.section4.now c.type_inv.section4) c.requires.stands in
    let numbers = c.requires.numbers in
    omega (arith, few, numbers, c.data_bits-bits.ensures, c.div_ceil.ensures)
