use Rattle.std.proofs.Common.{ℕ, List, length, sym, ap, ◌∙◌, arith}
use Rattle.grib_base.specs.declared.profile.Profile.TheVariants.{Open}
use Rattle.grib_base.specs.Rules.{first_fault}
use Rattle.grib2_grids.specs.Opaque.{grid_rules_under}
use Rattle.grib2_grids.proofs.Numbers.{has_numbers}
use Rattle.grib2_grids.proofs.Under.{same_grid_rules, grid_header_length}
use Rattle.grib2_message.specs.Fields.{part_octets}
use Rattle.grib2_message.proofs.message.Message.grid.Goals as goal

pub is_opaque_grid-requires : goal.is_opaque_grid-requires
is_opaque_grid-requires c =
    omega (arith, ap length c.in-Some.ensures.part.1, grid_header_length Open (part_octets c.args.self.now c.args.field 3) c.in-Some.ensures.passes.grid)

pub grid_of-requires : goal.grid_of-requires
grid_of-requires c =
    let s = c.in-Some.section.octets.now in
    let stated = sym c.is_opaque_grid.ensures ∙ c.if-is_opaque_grid.false in
    has_numbers s (ap first_fault (sym (same_grid_rules Open s stated))
    ∙ (ap (λ (x : List ℕ). first_fault (grid_rules_under Open x)) c.in-Some.ensures.part.1 ∙ c.in-Some.ensures.passes.grid))
