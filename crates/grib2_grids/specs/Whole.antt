-- What the rules of Section 3 tell of a section's length.
use Rattle.std.specs.Prelude.{◌≡◌, ℕ, ◌+◌, ◌-◌, ◌*◌, ◌<◌, ◌≤◌, true, List, length}
use Rattle.grib2_sections.specs.Template.{is_template, least_length}
use Rattle.grib2_grids.specs.Grid.{grid_templates, grid_source, grid_template, list_octets, list_start, may_have_list, nj}

-- the section has a grid by a template of the profile, as a whole
pub record IsWhole (s : List ℕ) : Type 0 where
  pub source : grid_source s ≡ 0
  pub known : is_template grid_templates (grid_template s) ≡ true
  pub long : least_length grid_templates (grid_template s) ≤ length s
  pub least : 65 ≤ length s

-- where there is a list of rows, its numbers have at most four octets, and the section has it as a whole
pub record HasList (s : List ℕ) : Type 0 where
  pub word : list_octets s ≤ 4
  pub long : 0 < list_octets s → list_start s - 1 + list_octets s * nj s ≤ length s

-- the section has a grid by a template of the profile and, where its template may have one, its list of rows
pub record HasNumbers (s : List ℕ) : Type 0 where
  pub template : IsWhole s
  pub list : HasList s
  pub may_list : 0 < list_octets s → may_have_list (grid_template s) ≡ true
