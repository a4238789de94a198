use Rattle.std.proofs.Common.{◌≡◌, ◌≤◌, None, false, length, ap, sym, ◌∙◌, subst, arith}
use Rattle.grib_base.specs.declared.profile.Profile.TheVariants.{Open}
use Rattle.grib_base.specs.Rules.{first_fault}
use Rattle.grib2_sections.specs.Template.{least_length}
use Rattle.grib2_grids.specs.Grid.{grid_rules, grid_templates, grid_template}
use Rattle.grib2_grids.specs.Opaque.{is_opaque_grid}
use Rattle.grib2_message.specs.Fields.{part_octets}
use Rattle.grib2_grids.proofs.Numbers.{has_numbers}
use Rattle.grib2_grids.proofs.Under.{grid_header_length, same_grid_rules}
use Rattle.grib_values.proofs.arraying.shape_of_field.Goals as goal

pub second_shape-requires : goal.second_shape-requires
second_shape-requires c =
    let s = part_octets c.args.message.now c.args.field 3 in
    let same = c.in-Some.ensures.part.1 in
    let passes = c.part.ensures.passes.grid in
    record {
      head = omega (arith, ap length same, grid_header_length Open s passes);
      long = λ stated.
          let known : is_opaque_grid s ≡ false = ap is_opaque_grid (sym same) ∙ stated in
          let none : first_fault (grid_rules s) ≡ None = ap first_fault (sym (same_grid_rules Open s known)) ∙ passes in
          subst (λ s. least_length grid_templates (grid_template s) ≤ length s) (sym same) (has_numbers s none).template.long;
    }
