-- The octets of the numbers, one after another.
use Rattle.std.proofs.Common.{ℕ, subst}
use Rattle.grib_bits.specs.Encoding.{AddsOctets}
use Rattle.grib_bits.proofs.Encoding.{AddsOctets-append}
use Rattle.grib2_grids.specs.Written.{header}
use Rattle.grib2_grids.proofs.writing.write_header.Goals as goal

pub returns-clause-octets : goal.returns-clause-octets
returns-clause-octets c =
    let v = c.args.value.now in
    let Added : ℕ → Type 0 = λ template. AddsOctets c.args.out.now c.write_u16.new.out (header c.args.length v.points v.list_octets v.list_meaning template) in
    subst Added c.template_number.ensures (search (AddsOctets-append, c) depth 10)
