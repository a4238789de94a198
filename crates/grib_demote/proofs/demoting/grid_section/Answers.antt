use Rattle.std.proofs.Common.{ℕ, Option, List, ◌++◌, length, ap, ◌∙◌}
use Rattle.std.specs.Prelude.{unwrap_or}
use Rattle.grib_bits.specs.Listed.{numbers_octets}
use Rattle.grib2_grids.specs.Grid.{grid_template, row_list}
use Rattle.grib_bits.specs.Encoding.{all_octets}
use Rattle.grib_demote.specs.Grids.{type_of, header, template_numbers}
use Rattle.grib_demote.specs.Products.{coordinate_numbers}
use Rattle.grib_demote.proofs.Joining.{none_carried, four_joined}
use Rattle.grib_demote.proofs.demoting.grid_section.Goals as goal

pub returns-in_err-add_coordinates : goal.returns-in_err-add_coordinates
returns-in_err-add_coordinates c = none_carried _ _ c.from_residual-in_err-add_coordinates.result c.from_residual-in_err-add_coordinates.ensures.1

pub returns-in_err-add_rows : goal.returns-in_err-add_rows
returns-in_err-add_rows c = none_carried _ _ c.from_residual-in_err-add_rows.result c.from_residual-in_err-add_rows.ensures.1

pub returns : goal.returns
returns c =
    let s = c.args.section3.now in
    let words = c.args.coordinates.now in
    let at_0 = c.new-octets.result.items in
    let at_3 = c.add_coordinates.new.out.items in
    let type_is = c.unwrap_or-grid_type.ensures ∙ ap (λ (o : Option ℕ). unwrap_or o 0) (c.type_of.ensures ∙ ap type_of c.u16_at.ensures) in
    four_joined (all_octets (header (length words) (unwrap_or (type_of (grid_template s)) 0) s)) (all_octets (template_numbers s)) (all_octets (coordinate_numbers words)) (numbers_octets 2 (row_list s))
    at_0 c.add_header.new.out.items c.add_template.new.out.items at_3 c.add_rows.new.out.items c.new-octets.ensures.items
    (c.in_ok-add_header.ensures ∙ ap (λ (t : ℕ). at_0 ++ all_octets (header (length words) t s)) type_is)
    c.in_ok-add_template.ensures c.in_ok-add_coordinates.ensures
    (c.in_ok-add_rows.ensures ∙ ap (λ (rows : List ℕ). at_3 ++ numbers_octets 2 rows) c.requires.rows)
