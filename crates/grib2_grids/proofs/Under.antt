-- What the rules of Section 3 under a profile tell.
use Rattle.std.proofs.Common.{◌≡◌, ℕ, ◌≤◌, Bool, true, false, not, cond, eqb, List, length, refl, ap, ◌∙◌, ltb-false}
use Rattle.std.specs.Prelude.{None}
use Rattle.std.proofs.lemmas.Bool.{or_from}
use Rattle.grib_base.specs.declared.profile.Profile.{Profile}
use Rattle.grib_base.specs.declared.profile.Profile.TheVariants.{Stated, Open}
use Rattle.grib_base.specs.Rules.{first_fault}
use Rattle.grib_base.proofs.Passing.{AllPass, passes_from_none}
use Rattle.grib2_sections.specs.Template.{is_template}
use Rattle.grib2_grids.specs.Grid.{grid_rules, grid_templates, grid_template, grid_source, grid_points}
use Rattle.grib2_grids.specs.Opaque.{is_opaque_grid, opaque_grid_rules, grid_rules_under}
use Rattle.grib2_grids.proofs.Passing.{points_test}

-- where the grid is not opaque, each profile has the same rules
pub same_grid_rules : (profile : Profile) (s : List ℕ) → is_opaque_grid s ≡ false → grid_rules_under profile s ≡ grid_rules s
same_grid_rules Stated s stated = refl
same_grid_rules Open s stated = ap (λ (b : Bool). cond b (opaque_grid_rules s) (grid_rules s)) stated

-- a grid that the stated profile accepts is not opaque
pub not_opaque_grid : (s : List ℕ) → first_fault (grid_rules s) ≡ None → is_opaque_grid s ≡ false
not_opaque_grid s none =
    let rules = passes_from_none (grid_rules s) none in
    or_from (not (eqb (grid_source s) 0)) (not (is_template grid_templates (grid_template s))) rules.1.0 rules.1.1.0

-- what the stated profile accepts, each profile accepts
pub grid_accepted : (profile : Profile) (s : List ℕ) → first_fault (grid_rules s) ≡ None → first_fault (grid_rules_under profile s) ≡ None
grid_accepted profile s none = ap first_fault (same_grid_rules profile s (not_opaque_grid s none)) ∙ none

header_by : (opaque : Bool) (s : List ℕ) → first_fault (cond opaque (opaque_grid_rules s) (grid_rules s)) ≡ None → AllPass (opaque_grid_rules s)
header_by true s none = passes_from_none (opaque_grid_rules s) none
header_by false s none = let rules = passes_from_none (grid_rules s) none in (rules.0, (rules.1.1.1.1.0, tt))

header_passes : (profile : Profile) (s : List ℕ) → first_fault (grid_rules_under profile s) ≡ None → AllPass (opaque_grid_rules s)
header_passes Stated s none = header_by false s none
header_passes Open s none = header_by (is_opaque_grid s) s none

-- the section of a grid that a profile accepts has its header as a whole
pub grid_header_length : (profile : Profile) (s : List ℕ) → first_fault (grid_rules_under profile s) ≡ None → 14 ≤ length s
grid_header_length profile s none = ltb-false (length s) 14 (header_passes profile s none).0

-- and its grid has points, and no more than a field has at most
pub grid_point_bounds : (profile : Profile) (s : List ℕ) → first_fault (grid_rules_under profile s) ≡ None → (1 ≤ grid_points s) × (grid_points s ≤ 33554432)
grid_point_bounds profile s none = points_test (grid_points s) (header_passes profile s none).1.0
