use Rattle.std.proofs.Common.{◌∙◌, ap}
use Rattle.grib_bits.proofs.AllOctets.{added_same}
use Rattle.grib_migrate.specs.Times.{statistic}
use Rattle.grib_migrate.proofs.Products.{interval_same}
use Rattle.grib_migrate.proofs.product.add_interval.Goals as goal

pub returns : goal.returns
returns c =
    added_same c.args.out.now.items c.add_numbers.new.out.items _ _ c.add_numbers.result
    (interval_same c.args.section1.now c.args.product.now.unit c.args.end.now c.from.result c.from-2.result c.statistic.result c.from-3.result c.u8_at.result c.u8_at-2.result
    c.requires.end c.from.ensures (c.from-2.ensures ∙ c.u8_at-3.ensures) (c.statistic.ensures ∙ ap statistic c.u8_at-4.ensures) c.from-3.ensures c.u8_at.ensures c.u8_at-2.ensures)
    c.add_numbers.ensures
