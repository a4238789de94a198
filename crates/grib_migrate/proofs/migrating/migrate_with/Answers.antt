use Rattle.std.proofs.Common.{◌∙◌, sym}
use Rattle.std.specs.Prelude.{option_copied}
use Rattle.grib_migrate.specs.Losses.{first_loss_with, first_of, number_losses}
use Rattle.grib1_sections.specs.Acceptance.{identification, grid, bitmap, data_section}
use Rattle.grib_migrate.proofs.Joining.{front_lost, numbers_lost, loss_carried, fault_carried, memory_lost, holds_same, migrated_whole}
use Rattle.grib_migrate.proofs.migrating.migrate_with.Goals as goal

pub returns-in_err-product : goal.returns-in_err-product
returns-in_err-product c =
    let s = c.of-source.result in
    let is = c.of-source.ensures in
    loss_carried _ (first_loss_with c.args.table.now c.args.surfaces.now c.args.local c.args.message.now) c.from_residual.result _ c.from_residual.ensures.1
    (front_lost c.args.table.now c.args.surfaces.now c.args.local c.args.message.now s.identification.now s.grid.now s.numbers.now is.identification is.grid is.numbers _ c.in_err-product.ensures)

pub returns-in_err-front : goal.returns-in_err-front
returns-in_err-front c =
    let s = c.of-source.result in
    let is = c.of-source.ensures in
    fault_carried _ (first_of (number_losses s.grid.now s.numbers.now)) (first_loss_with c.args.table.now c.args.surfaces.now c.args.local c.args.message.now) c.from_residual-in_err-front.result _ c.from_residual-in_err-front.ensures.1
    (numbers_lost c.args.table.now c.args.surfaces.now c.args.local c.args.message.now s.identification.now s.grid.now s.numbers.now is.identification is.grid is.numbers c.in_ok-product.ensures.0)
    c.in_err-front.ensures

pub whole_message-requires-clause-holds : goal.whole_message-requires-clause-holds
whole_message-requires-clause-holds c =
    let s = c.of-source.result in
    let is = c.of-source.ensures in
    let m = c.args.message.now in
    holds_same s.identification.now (identification m) s.grid.now (grid m) (option_copied s.bitmap) (bitmap m) s.numbers.now (data_section m) s.points s.values is.identification is.grid is.bitmap is.numbers is.holds

pub returns-in_err-whole_message : goal.returns-in_err-whole_message
returns-in_err-whole_message c =
    memory_lost c.from_residual-in_err-whole_message.result _ (first_loss_with c.args.table.now c.args.surfaces.now c.args.local c.args.message.now) c.from_residual-in_err-whole_message.ensures

pub returns : goal.returns
returns c =
    let s = c.of-source.result in
    let is = c.of-source.ensures in
    let m = c.args.message.now in
    let none = numbers_lost c.args.table.now c.args.surfaces.now c.args.local m s.identification.now s.grid.now s.numbers.now is.identification is.grid is.numbers c.in_ok-product.ensures.0 in (
      sym none ∙ c.in_ok-front.ensures.0,
      migrated_whole c.args.table.now c.args.surfaces.now c.args.local m s.identification.now s.grid.now (option_copied s.bitmap) s.numbers.now s.points s.values c.in_ok-product.product c.as_slice-2.result.now
          c.in_ok-whole_message.field-0.items c.in_ok-product.ensures.1 is.identification is.grid is.bitmap is.numbers is.points is.values
          (c.as_slice-2.ensures.value ∙ c.in_ok-front.ensures.1) c.in_ok-whole_message.ensures,
    )
