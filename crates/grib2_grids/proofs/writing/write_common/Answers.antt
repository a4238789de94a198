-- The octets of the numbers, one after another.
use Rattle.std.proofs.Common.{sym}
use Rattle.grib_bits.proofs.Encoding.{AddsOctets-append}
use Rattle.grib2_grids.proofs.writing.write_common.Goals as goal

pub returns-clause-octets : goal.returns-clause-octets
returns-clause-octets c = search (AddsOctets-append, c) depth 20

pub returns-clause-spelled : goal.returns-clause-spelled
returns-clause-spelled c = λ l points list_octets list_meaning template rest. search (c, sym)
