-- The rules of a grid that is not opaque are those of the stated profile.
use Rattle.std.proofs.Common.{◌≡◌, List, sym, ◌∙◌, subst}
use Rattle.std.specs.Prelude.{Some, None, MatchResult, false}
use Rattle.grib_base.specs.declared.profile.Profile.TheVariants.{Open}
use Rattle.grib_base.specs.Rules.{Rule, first_fault_at}
use Rattle.grib2_grids.specs.Opaque.{is_opaque_grid}
use Rattle.grib2_grids.proofs.Under.{same_grid_rules}
use Rattle.grib2_grids.proofs.opaque.check_any_grid.Goals as goal

pub returns-then-not-is_opaque_grid : goal.returns-then-not-is_opaque_grid
returns-then-not-is_opaque_grid c =
    let section = c.args.section.now in
    let s = section.octets.now in
    let stated : is_opaque_grid s ≡ false = sym c.is_opaque_grid.ensures ∙ c.if-not-is_opaque_grid.true in
    let Tried : List Rule → Type 0 = λ rules. MatchResult c.check_grid.result
    (λ _. first_fault_at section.start rules ≡ None) (λ fault. first_fault_at section.start rules ≡ Some fault) in
    subst Tried (sym (same_grid_rules Open s stated)) c.check_grid.ensures
