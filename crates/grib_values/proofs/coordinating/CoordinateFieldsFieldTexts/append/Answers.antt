use Rattle.std.proofs.Common.{◌≡◌, ◌*◌, ◌≤◌, ◌++◌, None, false, List, ℕ, length, sym, ap, ◌∙◌, subst}
use Rattle.grib_base.specs.declared.profile.Profile.TheVariants.{Open}
use Rattle.grib_base.specs.Rules.{first_fault}
use Rattle.grib_bits.specs.Octets.{octets}
use Rattle.grib2_sections.specs.Template.{least_length}
use Rattle.grib2_grids.specs.Grid.{grid_rules, grid_templates, grid_template}
use Rattle.grib2_grids.specs.Opaque.{is_opaque_grid}
use Rattle.grib2_grids.proofs.Numbers.{has_numbers}
use Rattle.grib2_grids.proofs.Under.{same_grid_rules}
use Rattle.grib2_message.specs.Fields.{part_octets}
use Rattle.grib_rescan.specs.Sections.{HasPoints}
use Rattle.grib_command.specs.Pending.{WritesToAllBut}
use Rattle.grib_placed.proofs.Told.{told}
use Rattle.grib_values.specs.Coordinates.{arrays_of}
use Rattle.grib_values.proofs.coordinating.CoordinateFieldsFieldTexts.append.Goals as goal

pub append_arrays-requires : goal.append_arrays-requires
append_arrays-requires g c =
    let m = c.args.self.now.message.now in
    let s = part_octets m c.args.field 3 in
    let same = c.in-Some.ensures.part.1 in
    let passes = c.part.ensures.passes.grid in
    let none = told m c.args.field c.requires.first c.requires.last c.args.self.now.told in
    record {
      grid = subst HasPoints (sym same) (c.what_has_places.ensures.points Open s passes none);
      long = λ stated.
          let known : is_opaque_grid s ≡ false = ap is_opaque_grid (sym same) ∙ stated in
          let rules : first_fault (grid_rules s) ≡ None = ap first_fault (sym (same_grid_rules Open s known)) ∙ passes in
          subst (λ s. least_length grid_templates (grid_template s) ≤ length s) (sym same) (has_numbers s rules).template.long;
      points = subst (λ s. octets s 31 34 * octets s 35 38 ≡ octets s 7 10) (sym same) (c.what_has_places.ensures.product Open s passes none);
    }

pub returns : goal.returns
returns g c =
    subst
    (λ s. WritesToAllBut g.T.Sink.contents g.T.Sink.faults g.T.Sink.settled c.append_arrays.result c.args.output.now c.append_arrays.new.output
    (c.args.lines.now.items ++ arrays_of s) c.append_arrays.new.octets.items)
    c.in-Some.ensures.part.1 c.append_arrays.ensures
