use Rattle.grib_base.specs.Rules.{first_fault}
use Rattle.grib_base.proofs.Passing.{none-located}
use Rattle.grib2_products.specs.Product.{product_rules}
use Rattle.grib2_products.proofs.Numbers.{is_whole}
use Rattle.grib2_products.proofs.reading.read_product.Goals as goal

pub product_of-requires : goal.product_of-requires
product_of-requires c =
    let s = c.args.section.now.octets.now in
    is_whole s (none-located c.args.section.now.start (first_fault (product_rules s 1)) c.in_ok-check_product.ensures)
