-- The octets of the numbers, one after another.
use Rattle.std.proofs.Common.{sym}
use Rattle.grib_bits.proofs.Encoding.{AddsOctets-append}
use Rattle.grib2_products.proofs.writing.write_ensemble.Goals as goal

pub returns-clause-octets : goal.returns-clause-octets
returns-clause-octets c = search (AddsOctets-append, c) depth 8

pub returns-clause-spelled : goal.returns-clause-spelled
returns-clause-spelled c = λ l count template v rest. search (c, sym)
