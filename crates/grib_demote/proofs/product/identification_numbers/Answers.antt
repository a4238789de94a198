use Rattle.std.proofs.Common.{◌∙◌}
use Rattle.grib_demote.proofs.Products.{numbers_same}
use Rattle.grib_demote.proofs.product.identification_numbers.Goals as goal

pub returns : goal.returns
returns c =
    numbers_same c.args.told.now c.args.has_bitmap c.args.field.now.identification.now c.args.field.now.product.now c.args.field.now.packing.now _ _ _ _ _ _ _ _ c.reference_time-date.result c.time_range-range.result
    c.u16_at.ensures c.u8_at.ensures c.flags_of.ensures c.from.ensures c.year_of_century.ensures c.century.ensures c.u16_at-2.ensures (c.from-2.ensures ∙ c.u16_at-3.ensures)
    c.reference_time-date.ensures c.time_range-range.ensures
