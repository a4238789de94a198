use Rattle.std.proofs.Common.{ℕ, List, [], ◌∷◌, ap, ap₂, sym, subst, ◌∙◌}
use Rattle.grib2_products.specs.Spelled.{coordinate_list}
use Rattle.grib2_grids.specs.Grid.{row_list}
use Rattle.grib2_grids.specs.Whole.{IsWhole}
use Rattle.grib2_message.specs.Fields.{part_octets}
use Rattle.grib_demote.specs.Grids.{grid_loss}
use Rattle.grib_demote.specs.Losses.{first_of, form_losses, number_losses, coordinate_loss}
use Rattle.grib_demote.specs.Demoted as spec
use Rattle.grib_demote.proofs.Lists.{few_coordinates}
use Rattle.grib_demote.proofs.Joining.{first_lost, later_lost, here_lost, not_here, memory_carried}
use Rattle.grib_demote.proofs.demoting.grid_octets.Goals as goal

pub returns-in-Some : goal.returns-in-Some
returns-in-Some c =
    let m = c.args.message.now in
    let i = c.args.field in
    let is = c.of-parts.ensures in
    let forms = ap₂ (λ (x y : List ℕ). first_of (form_losses c.args.keep_local c.args.any_earth x y)) is.local is.grid in
    first_lost (form_losses c.args.keep_local c.args.any_earth (part_octets m i 2) (part_octets m i 3)) (number_losses (part_octets m i 3) (part_octets m i 4)) c.in-Some.loss
    (sym forms ∙ sym c.form_loss.ensures ∙ c.in-Some.is)

pub returns-in-Some-grid_loss : goal.returns-in-Some-grid_loss
returns-in-Some-grid_loss c =
    let m = c.args.message.now in
    let i = c.args.field in
    let is = c.of-parts.ensures in
    let forms = ap₂ (λ (x y : List ℕ). first_of (form_losses c.args.keep_local c.args.any_earth x y)) is.local is.grid in
    let s3 = part_octets m i 3 in
    later_lost (form_losses c.args.keep_local c.args.any_earth (part_octets m i 2) s3) (number_losses s3 (part_octets m i 4)) (sym forms ∙ sym c.form_loss.ensures ∙ c.in_default.is)
    ∙ here_lost (grid_loss s3) (coordinate_loss (coordinate_list (part_octets m i 4)) ∷ []) c.in-Some-grid_loss.loss (sym (ap grid_loss is.grid) ∙ sym c.grid_loss.ensures ∙ c.in-Some-grid_loss.is)

pub returns-in-Some-coordinate_loss : goal.returns-in-Some-coordinate_loss
returns-in-Some-coordinate_loss c =
    let m = c.args.message.now in
    let i = c.args.field in
    let is = c.of-parts.ensures in
    let forms = ap₂ (λ (x y : List ℕ). first_of (form_losses c.args.keep_local c.args.any_earth x y)) is.local is.grid in
    let s3 = part_octets m i 3 in
    let words = coordinate_list (part_octets m i 4) in
    let words_are = ap coordinate_loss (c.as_slice-2.ensures ∙ c.in_ok-coordinates.ensures) in
    later_lost (form_losses c.args.keep_local c.args.any_earth (part_octets m i 2) s3) (number_losses s3 (part_octets m i 4)) (sym forms ∙ sym c.form_loss.ensures ∙ c.in_default.is)
    ∙ not_here (grid_loss s3) (coordinate_loss words ∷ []) (sym (ap grid_loss is.grid) ∙ sym c.grid_loss.ensures ∙ c.in_default-grid_loss.is)
    ∙ here_lost (coordinate_loss words) [] c.in-Some-coordinate_loss.loss (sym words_are ∙ sym c.coordinate_loss.ensures ∙ c.in-Some-coordinate_loss.is)

pub grid_section-requires-clause-whole : goal.grid_section-requires-clause-whole
grid_section-requires-clause-whole c = subst (λ (s : List ℕ). IsWhole s) (sym c.of-parts.ensures.grid) (c.of-parts.ensures.holds.grid c.requires.grid)

pub form_loss-requires-clause-whole : goal.form_loss-requires-clause-whole
form_loss-requires-clause-whole c = subst (λ (s : List ℕ). IsWhole s) (sym c.of-parts.ensures.grid) (c.of-parts.ensures.holds.grid c.requires.grid)

pub grid_section-requires-clause-rows : goal.grid_section-requires-clause-rows
grid_section-requires-clause-rows c = c.as_slice-4.ensures ∙ c.in_ok-rows.ensures ∙ sym (ap row_list c.of-parts.ensures.grid)

pub grid_section-requires-clause-few : goal.grid_section-requires-clause-few
grid_section-requires-clause-few c =
    few_coordinates c.as_slice-3.result.now (ap coordinate_loss (c.as_slice-3.ensures ∙ sym c.as_slice-2.ensures) ∙ sym c.coordinate_loss.ensures ∙ c.in_default-coordinate_loss.is)

pub returns-in_err-coordinates : goal.returns-in_err-coordinates
returns-in_err-coordinates c = memory_carried _ _ c.from_residual-in_err-coordinates.result c.from_residual-in_err-coordinates.ensures.1

pub returns-in_err-grid_section : goal.returns-in_err-grid_section
returns-in_err-grid_section c = memory_carried _ _ c.from_residual-in_err-grid_section.result c.from_residual-in_err-grid_section.ensures.1

pub returns : goal.returns
returns c =
    let m = c.args.message.now in
    let i = c.args.field in
    let is = c.of-parts.ensures in
    let forms = ap₂ (λ (x y : List ℕ). first_of (form_losses c.args.keep_local c.args.any_earth x y)) is.local is.grid in
    let s3 = part_octets m i 3 in
    let words = coordinate_list (part_octets m i 4) in
    let words_are = ap coordinate_loss (c.as_slice-2.ensures ∙ c.in_ok-coordinates.ensures) in (
      later_lost (form_losses c.args.keep_local c.args.any_earth (part_octets m i 2) s3) (number_losses s3 (part_octets m i 4)) (sym forms ∙ sym c.form_loss.ensures ∙ c.in_default.is)
          ∙ not_here (grid_loss s3) (coordinate_loss words ∷ []) (sym (ap grid_loss is.grid) ∙ sym c.grid_loss.ensures ∙ c.in_default-grid_loss.is)
          ∙ not_here (coordinate_loss words) [] (sym words_are ∙ sym c.coordinate_loss.ensures ∙ c.in_default-coordinate_loss.is),
      c.in_ok-grid_section.ensures ∙ ap₂ spec.grid_octets (c.as_slice-3.ensures ∙ c.in_ok-coordinates.ensures) is.grid,
    )
