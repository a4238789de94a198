use Rattle.std.proofs.Common.{◌∙◌, arith}
use Rattle.grib_bits.proofs.OctetNumbers.{AreOctets-known, big_number-rest}
use Rattle.grib2_sections.proofs.Frames.{octet_alone}
use Rattle.grib_complex_reading.proofs.representation.layout.Goals as goal

pub returns : goal.returns
returns c =
    let s = c.args.octets.now in
    let known = AreOctets-known s c.type_inv.octets in
    λ i. record {
      groups = (c.read_u32.ensures ∙ big_number-rest s 32 35 4 known (omega arith) (omega arith) (omega arith)) i;
      reference_bits = octet_alone s 20 known (omega arith) (omega arith) i;
      width_reference = octet_alone s 36 known (omega arith) (omega arith) i;
      width_bits = octet_alone s 37 known (omega arith) (omega arith) i;
      length_reference = (c.read_u32-2.ensures ∙ big_number-rest s 38 41 4 known (omega arith) (omega arith) (omega arith)) i;
      length_increment = octet_alone s 42 known (omega arith) (omega arith) i;
      last_length = (c.read_u32-3.ensures ∙ big_number-rest s 43 46 4 known (omega arith) (omega arith) (omega arith)) i;
      length_bits = octet_alone s 47 known (omega arith) (omega arith) i;
      management = octet_alone s 23 known (omega arith) (omega arith) i;
    }
