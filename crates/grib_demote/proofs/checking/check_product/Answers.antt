use Rattle.std.proofs.Common.{◌∙◌}
use Rattle.grib_demote.specs.Losses.{first_of, product_losses, parameter_losses, time_losses}
use Rattle.grib_demote.proofs.Joining.{first_lost, later_lost, loss_carried, told_is, demoted_holds}
use Rattle.grib_demote.proofs.checking.check_product.Goals as goal

pub returns-in_err-version : goal.returns-in_err-version
returns-in_err-version c =
    let f = c.args.field.now in
    let table = c.args.table.now in
    let matching = c.args.matching in
    let xs = parameter_losses table matching f.discipline f.identification.now f.grid.now f.product.now in
    let ys = time_losses f.identification.now f.product.now in
    loss_carried _ (first_of (product_losses table matching f.discipline f.identification.now f.grid.now f.product.now)) c.from_residual.result _ c.from_residual.ensures.1
    (first_lost xs ys _ c.in_err-version.ensures)

pub returns-in_err-unit : goal.returns-in_err-unit
returns-in_err-unit c =
    let f = c.args.field.now in
    let table = c.args.table.now in
    let matching = c.args.matching in
    let xs = parameter_losses table matching f.discipline f.identification.now f.grid.now f.product.now in
    let ys = time_losses f.identification.now f.product.now in
    loss_carried _ (first_of (product_losses table matching f.discipline f.identification.now f.grid.now f.product.now)) c.from_residual-in_err-unit.result _ c.from_residual-in_err-unit.ensures.1
    (later_lost xs ys c.in_ok-version.ensures.0 ∙ c.in_err-unit.ensures)

pub returns : goal.returns
returns c =
    let f = c.args.field.now in
    let table = c.args.table.now in
    let matching = c.args.matching in
    let xs = parameter_losses table matching f.discipline f.identification.now f.grid.now f.product.now in
    let ys = time_losses f.identification.now f.product.now in
    let found = c.in_ok-version.ensures.1 in
    let times = c.in_ok-unit.ensures.1 in (
      later_lost xs ys c.in_ok-version.ensures.0 ∙ c.in_ok-unit.ensures.0,
      told_is table matching f.discipline f.identification.now f.product.now _ _ _ _ found.pair found.level times.unit_is,
      demoted_holds table matching f _ _ c.requires found times,
    )
