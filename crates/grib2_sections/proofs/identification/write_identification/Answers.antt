-- The section is that of the numbers' octets, one after another.
use Rattle.std.proofs.Common.{sym, refl, arith}
use Rattle.grib_bits.proofs.Encoding.{AddsOctets-append, AddsOctets-whole}
use Rattle.grib2_sections.proofs.identification.write_identification.Goals as goal

pub returns : goal.returns
returns c =
    let written =
    AddsOctets-append (AddsOctets-append (AddsOctets-append (AddsOctets-append (AddsOctets-append (AddsOctets-append (AddsOctets-append (AddsOctets-append (AddsOctets-append (AddsOctets-append (AddsOctets-append (AddsOctets-append (AddsOctets-append (AddsOctets-append
    c.write_u32.ensures.octets
    c.write_u8.ensures.octets)
    c.write_u16.ensures.octets)
    c.write_u16-2.ensures.octets)
    c.write_u8-2.ensures.octets)
    c.write_u8-3.ensures.octets)
    c.write_u8-4.ensures.octets)
    c.write_u16-3.ensures.octets)
    c.write_u8-5.ensures.octets)
    c.write_u8-6.ensures.octets)
    c.write_u8-7.ensures.octets)
    c.write_u8-8.ensures.octets)
    c.write_u8-9.ensures.octets)
    c.write_u8-10.ensures.octets)
    c.write_u8-11.ensures.octets
    in record {
      itself = record { length_stands = refl; least = omega arith; number_stands = refl };
      length = refl;
      spelled = record {
        centre = sym c.write_u16.ensures.number;
        sub_centre = sym c.write_u16-2.ensures.number;
        master = sym c.write_u8-2.ensures.number;
        local = sym c.write_u8-3.ensures.number;
        significance = sym c.write_u8-4.ensures.number;
        year = sym c.write_u16-3.ensures.number;
        month = sym c.write_u8-5.ensures.number;
        day = sym c.write_u8-6.ensures.number;
        hour = sym c.write_u8-7.ensures.number;
        minute = sym c.write_u8-8.ensures.number;
        second = sym c.write_u8-9.ensures.number;
        status = sym c.write_u8-10.ensures.number;
        data_type = sym c.write_u8-11.ensures.number;
      };
      octets = written;
      whole = AddsOctets-whole written c.requires.whole;
    }
