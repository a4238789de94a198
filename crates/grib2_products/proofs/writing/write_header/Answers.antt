-- The octets of the numbers, one after another.
use Rattle.grib_bits.proofs.Encoding.{AddsOctets-append}
use Rattle.grib2_products.proofs.writing.write_header.Goals as goal

pub returns-clause-octets : goal.returns-clause-octets
returns-clause-octets c = search (AddsOctets-append, c) depth 8
