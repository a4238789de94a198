-- Section 3 where any grid is accepted: a grid by a template that is not stated is opaque, and of its section
-- the header alone is read (WMO-No. 306, Volume I.2, FM 92 GRIB edition 2, Section 3).
use Rattle.std.specs.Prelude.{ℕ, Bool, not, cond, ◌||◌, List, [], ◌∷◌, length, nat_lt, ◌==◌}
use Rattle.grib_base.specs.declared.fault.Reason.TheVariants.{SectionLength, PointCount}
use Rattle.grib_base.specs.declared.limits.TheConstants.{MOST_POINTS}
use Rattle.grib_base.specs.declared.profile.Profile.{Profile}
use Rattle.grib_base.specs.declared.profile.Profile.TheVariants.{Stated, Open}
use Rattle.grib_base.specs.Rules.{Rule, rule}
use Rattle.grib2_sections.specs.Template.{is_template}
use Rattle.grib2_grids.specs.Grid.{grid_templates, grid_source, grid_points, grid_template, grid_rules}

-- the grid is not defined by octets 13-14, or by a template that is not stated
abbrev pub is_opaque_grid : List ℕ → Bool
is_opaque_grid s = not (grid_source s == 0) || not (is_template grid_templates (grid_template s))

-- the rules of an opaque grid: S3.1 and S3.5
abbrev pub opaque_grid_rules : List ℕ → List Rule
opaque_grid_rules s =
    let l = length s in
    let points = grid_points s in
    rule (nat_lt l 14) 1 SectionLength l  -- S3.1
    ∷ rule (points == 0 || nat_lt MOST_POINTS points) 7 PointCount points  -- S3.5
    ∷ []

-- the rules of Section 3 under a profile
abbrev pub grid_rules_under : Profile → List ℕ → List Rule
grid_rules_under Stated s = grid_rules s
grid_rules_under Open s = cond (is_opaque_grid s) (opaque_grid_rules s) (grid_rules s)
