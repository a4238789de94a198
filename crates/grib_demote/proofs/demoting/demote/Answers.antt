use Rattle.std.proofs.Common.{◌≡◌, Some, length, sym, ap, ◌∙◌, arith}
use Rattle.grib2_sections.specs.Head.{discipline}
use Rattle.grib2_grids.specs.Grid.{grid_points}
use Rattle.grib2_grids.specs.Opaque.{is_opaque_grid}
use Rattle.grib2_products.specs.Opaque.{is_opaque_product}
use Rattle.grib2_message.specs.Fields.{part_octets}
use Rattle.grib_reasons.specs.declared.demotion.Demotion.{Demotion}
use Rattle.grib_demote.specs.Losses.{first_of, product_losses, shape_losses, value_losses}
use Rattle.grib_demote.specs.Demoted.{demoted, demoted_sections, first_loss, length_loss}
use Rattle.grib_demote.proofs.Joining.{lost_carried, fault_carried, memory_carried}
use Rattle.grib_demote.proofs.Wholes.{front_lost, middle_lost, last_lost, none_lost, product_is, sections_are, whole_carried}
use Rattle.grib_demote.proofs.demoting.demote.Goals as goal

pub u32_at-points-requires-clause-within : goal.u32_at-points-requires-clause-within
u32_at-points-requires-clause-within c = omega (arith, c.in_ok-told.ensures.2.grid.least)

pub grid_octets-requires-clause-grid : goal.grid_octets-requires-clause-grid
grid_octets-requires-clause-grid c = sym (ap is_opaque_grid c.of-parts.ensures.grid) ∙ c.in_ok-told.ensures.2.grid_stated

pub grid_octets-requires-clause-product : goal.grid_octets-requires-clause-product
grid_octets-requires-clause-product c = sym (ap is_opaque_product c.of-parts.ensures.product) ∙ c.in_ok-told.ensures.2.product_stated

pub returns-in_err-told : goal.returns-in_err-told
returns-in_err-told c =
    let m = c.args.message.now in
    let i = c.args.field in
    let table = c.args.table.now in
    let matching = c.args.matching in
    let is = c.of-parts.ensures in
    let parts = c.of-parts.result in
    let xs = product_losses table matching (discipline m) (part_octets m i 1) (part_octets m i 3) (part_octets m i 4) in
    let same = product_is table matching parts.discipline (discipline m) parts.identification.now (part_octets m i 1) parts.grid.now (part_octets m i 3) parts.product.now (part_octets m i 4) is.discipline is.identification is.grid is.product in
    lost_carried _ (first_loss table matching c.args.keep_local c.args.any_earth m i) c.from_residual.result _ c.from_residual.ensures.1
    (front_lost xs (shape_losses c.args.keep_local c.args.any_earth m i) (value_losses m i) (λ _. length_loss (length (demoted table matching c.args.keep_local m i))) _ (sym same ∙ c.in_err-told.ensures))

pub returns-in_err-grid : goal.returns-in_err-grid
returns-in_err-grid c =
    let m = c.args.message.now in
    let i = c.args.field in
    let table = c.args.table.now in
    let matching = c.args.matching in
    let is = c.of-parts.ensures in
    let parts = c.of-parts.result in
    let xs = product_losses table matching (discipline m) (part_octets m i 1) (part_octets m i 3) (part_octets m i 4) in
    let ys = shape_losses c.args.keep_local c.args.any_earth m i in
    let same = product_is table matching parts.discipline (discipline m) parts.identification.now (part_octets m i 1) parts.grid.now (part_octets m i 3) parts.product.now (part_octets m i 4) is.discipline is.identification is.grid is.product in
    fault_carried _ (first_of ys) (first_loss table matching c.args.keep_local c.args.any_earth m i) c.from_residual-in_err-grid.result _ c.from_residual-in_err-grid.ensures.1
    (λ (loss : Demotion) (e : first_of ys ≡ Some loss). middle_lost xs ys (value_losses m i) (λ _. length_loss (length (demoted table matching c.args.keep_local m i))) loss (sym same ∙ c.in_ok-told.ensures.0) e)
    c.in_err-grid.ensures

pub returns-in_err-packed : goal.returns-in_err-packed
returns-in_err-packed c =
    let m = c.args.message.now in
    let i = c.args.field in
    let table = c.args.table.now in
    let matching = c.args.matching in
    let is = c.of-parts.ensures in
    let parts = c.of-parts.result in
    let xs = product_losses table matching (discipline m) (part_octets m i 1) (part_octets m i 3) (part_octets m i 4) in
    let ys = shape_losses c.args.keep_local c.args.any_earth m i in
    let zs = value_losses m i in
    let same = product_is table matching parts.discipline (discipline m) parts.identification.now (part_octets m i 1) parts.grid.now (part_octets m i 3) parts.product.now (part_octets m i 4) is.discipline is.identification is.grid is.product in
    fault_carried _ (first_of zs) (first_loss table matching c.args.keep_local c.args.any_earth m i) c.from_residual-in_err-packed.result _ c.from_residual-in_err-packed.ensures.1
    (λ (loss : Demotion) (e : first_of zs ≡ Some loss). last_lost xs ys zs (λ _. length_loss (length (demoted table matching c.args.keep_local m i))) loss (sym same ∙ c.in_ok-told.ensures.0) c.in_ok-grid.ensures.0 e)
    c.in_err-packed.ensures

pub returns-in_err-sections : goal.returns-in_err-sections
returns-in_err-sections c = memory_carried _ _ c.from_residual-in_err-sections.result c.from_residual-in_err-sections.ensures.1

pub returns : goal.returns
returns c =
    let m = c.args.message.now in
    let i = c.args.field in
    let table = c.args.table.now in
    let matching = c.args.matching in
    let keep = c.args.keep_local in
    let is = c.of-parts.ensures in
    let parts = c.of-parts.result in
    let xs = product_losses table matching (discipline m) (part_octets m i 1) (part_octets m i 3) (part_octets m i 4) in
    let ys = shape_losses keep c.args.any_earth m i in
    let zs = value_losses m i in
    let same = product_is table matching parts.discipline (discipline m) parts.identification.now (part_octets m i 1) parts.grid.now (part_octets m i 3) parts.product.now (part_octets m i 4) is.discipline is.identification is.grid is.product in
    let nothing = none_lost xs ys zs (λ _. length_loss (length (demoted table matching keep m i))) (sym same ∙ c.in_ok-told.ensures.0) c.in_ok-grid.ensures.0 c.in_ok-packed.ensures.0 in
    let points = c.u32_at-points.ensures ∙ ap grid_points is.grid in
    let sections = sections_are table matching keep m i c.in_ok-told.told parts.discipline parts.identification.now parts.local.now parts.product.now parts.packing.now c.as_slice.result.now c.in_ok-packed.packed c.u32_at-points.result
    is.discipline is.identification is.local is.product is.packing c.in_ok-told.ensures.1 (c.as_slice.ensures.value ∙ c.in_ok-grid.ensures.1) c.in_ok-packed.ensures.1 points in
    whole_carried (λ v. v.items) c.whole_message.result c.as_slice-2.result.now (demoted_sections table matching keep m i) (first_loss table matching keep c.args.any_earth m i)
    (c.as_slice-2.ensures.value ∙ c.in_ok-sections.ensures ∙ sections) nothing c.whole_message.ensures
