use Rattle.std.proofs.Common.{◌≤◌, length, sym, refl, arith}
use Rattle.grib_keys.specs.declared.key.Key.TheVariants.{GridTemplate, ProductTemplate, Packing}
use Rattle.grib_select.proofs.value.template_of.Goals as goal

pub u16_at-requires-clause-within : goal.u16_at-requires-clause-within
u16_at-requires-clause-within c =
    let there : 14 ≤ length c.args.section.now = c.requires.keys GridTemplate (record { first = 13; last = 14 }) (sym c.in-3.is) refl in omega arith

pub u16_at-requires-in-4-clause-within : goal.u16_at-requires-in-4-clause-within
u16_at-requires-in-4-clause-within c =
    let there : 9 ≤ length c.args.section.now = c.requires.keys ProductTemplate (record { first = 8; last = 9 }) (sym c.in-4.is) refl in omega arith

pub u16_at-requires-in-5-clause-within : goal.u16_at-requires-in-5-clause-within
u16_at-requires-in-5-clause-within c =
    let there : 11 ≤ length c.args.section.now = c.requires.keys Packing (record { first = 10; last = 11 }) (sym c.in-5.is) refl in omega arith
