use Rattle.std.proofs.Common.{sym, refl}
use Rattle.grib_keys.specs.declared.key.Key.TheVariants.{GridTemplate, ProductTemplate, Packing}
use Rattle.grib_select.proofs.value.is_opaque_section.Goals as goal

pub is_opaque_grid-requires : goal.is_opaque_grid-requires
is_opaque_grid-requires c = c.requires.keys GridTemplate (record { first = 13; last = 14 }) (sym c.in-3.is) refl

pub is_opaque_product-requires : goal.is_opaque_product-requires
is_opaque_product-requires c = c.requires.keys ProductTemplate (record { first = 8; last = 9 }) (sym c.in-4.is) refl

pub is_opaque-requires : goal.is_opaque-requires
is_opaque-requires c = c.requires.keys Packing (record { first = 10; last = 11 }) (sym c.in-5.is) refl
