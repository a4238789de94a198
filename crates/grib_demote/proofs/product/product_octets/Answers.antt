use Rattle.std.proofs.Common.{List, ◌++◌, ap, ◌∙◌}
use Rattle.grib_bits.specs.declared.adding.Number.{Number}
use Rattle.grib_bits.specs.Encoding.{all_octets}
use Rattle.grib_demote.specs.Products.{identification_numbers, local_octets}
use Rattle.grib_demote.proofs.Joining.{two_joined}
use Rattle.grib_demote.proofs.product.product_octets.Goals as goal

pub returns : goal.returns
returns c =
    let f = c.args.field.now in
    let at_0 = c.new-octets.result.items in
    two_joined (all_octets (identification_numbers c.args.told.now c.args.has_bitmap f.identification.now f.product.now f.packing.now)) (local_octets c.args.keep_local f.local.now)
    at_0 c.add_numbers.new.out.items c.add_local.new.out.items c.new-octets.ensures.items
    (c.in_ok-add_numbers.ensures ∙ ap (λ (numbers : List Number). at_0 ++ all_octets numbers) c.identification_numbers-numbers.ensures)
    c.in_ok-add_local.ensures
