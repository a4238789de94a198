-- The octets of the numbers, one after another.
use Rattle.std.proofs.Common.{sym}
use Rattle.grib_bits.proofs.Encoding.{AddsOctets-append}
use Rattle.grib2_products.proofs.writing.write_instant.Goals as goal

pub returns-clause-octets : goal.returns-clause-octets
returns-clause-octets c = AddsOctets-append (AddsOctets-append (AddsOctets-append (AddsOctets-append (AddsOctets-append (AddsOctets-append (AddsOctets-append (AddsOctets-append (AddsOctets-append (AddsOctets-append (AddsOctets-append (AddsOctets-append (AddsOctets-append (AddsOctets-append
    c.write_u8.ensures.octets
    c.write_u8-2.ensures.octets)
    c.write_u8-3.ensures.octets)
    c.write_u8-4.ensures.octets)
    c.write_u8-5.ensures.octets)
    c.write_u16.ensures.octets)
    c.write_u8-6.ensures.octets)
    c.write_u8-7.ensures.octets)
    c.write_u32.ensures.octets)
    c.write_u8-8.ensures.octets)
    c.write_u8-9.ensures.octets)
    c.write_u32-2.ensures.octets)
    c.write_u8-10.ensures.octets)
    c.write_u8-11.ensures.octets)
    c.write_u32-3.ensures.octets

pub returns-clause-spelled : goal.returns-clause-spelled
returns-clause-spelled c = λ l count template rest. search (c, sym)
