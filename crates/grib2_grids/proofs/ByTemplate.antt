-- What is known of each template.
use Rattle.std.proofs.Common.{◌≡◌, ℕ, ◌+◌, ◌≤◌, true, false, not, eqb, cond, List, length, refl, arith}
use Rattle.std.proofs.lemmas.Bool.Decides.{nat_tests}
use Rattle.grib2_sections.specs.Template.{least_length, is_template}
use Rattle.grib2_grids.specs.Grid.{grid_templates, may_have_list}
use Rattle.grib2_grids.specs.Spelled.{SpelledCommon, SpelledTemplate, template_of, common_of}
use Rattle.grib2_grids.specs.Written.{template_octets}
use Rattle.grib2_grids.specs.declared.grid.Grid.{Grid}
use Rattle.grib2_grids.specs.declared.grid.Grid.TheVariants.{LatLon, Rotated, Mercator, Polar, Lambert, Gaussian}

pub common_spelled : (g : Grid) (s : List ℕ) → SpelledTemplate g s → SpelledCommon (common_of g) s
common_spelled (LatLon v) s h = h.common
common_spelled (Rotated v r) s h = h.0.common
common_spelled (Mercator v) s h = h.common
common_spelled (Polar v) s h = h.common
common_spelled (Lambert v) s h = h.polar.common
common_spelled (Gaussian v) s h = h.common

pub length-template_octets : (g : Grid) → 14 + length (template_octets g) ≡ least_length grid_templates (template_of g)
length-template_octets (LatLon v) = refl
length-template_octets (Rotated v r) = refl
length-template_octets (Mercator v) = refl
length-template_octets (Polar v) = refl
length-template_octets (Lambert v) = refl
length-template_octets (Gaussian v) = refl

pub template_known : (g : Grid) → not (is_template grid_templates (template_of g)) ≡ false
template_known (LatLon v) = refl
template_known (Rotated v r) = refl
template_known (Mercator v) = refl
template_known (Polar v) = refl
template_known (Lambert v) = refl
template_known (Gaussian v) = refl

pub least-small : (g : Grid) → least_length grid_templates (template_of g) ≤ 84
least-small (LatLon v) = omega arith
least-small (Rotated v r) = omega arith
least-small (Mercator v) = omega arith
least-small (Polar v) = omega arith
least-small (Lambert v) = omega arith
least-small (Gaussian v) = omega arith

-- the templates that may have a list end where it begins
pub list_start-least : (t : ℕ) → may_have_list t ≡ true → least_length grid_templates t + 1 ≡ cond (eqb t 1) 85 73
list_start-least t h = grind (arith, nat_tests)
