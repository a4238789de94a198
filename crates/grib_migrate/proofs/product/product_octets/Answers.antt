use Rattle.grib_migrate.proofs.Products.{product_whole}
use Rattle.grib_migrate.proofs.product.product_octets.Goals as goal

pub returns : goal.returns
returns c =
    let p = c.args.product.now in
    let whole =
    product_whole p.member p.target c.args.section1.now c.args.coordinates.now p.unit p.surfaces c.new-octets.result.items c.add_instant.new.out.items c.add_member.new.out.items c.add_end.new.out.items
    c.add_coordinates.new.out.items c.requires.few c.new-octets.ensures.items c.in_ok-add_instant.ensures c.in_ok-add_member.ensures c.in_ok-add_end.ensures c.in_ok-add_coordinates.ensures.1 in
    (c.in_ok-add_coordinates.ensures.0, whole.0, whole.1)
