-- What is known of a grid that no rule refuses and of which no cause holds.
use Rattle.std.proofs.Common.{◌≡◌, ℕ, zero, suc, ◌*◌, ◌<◌, ◌≤◌, Bool, true, false, not, cond, Option, Some, None, List, length, leb, eqb, refl, sym, ap, ◌∙◌, subst, arith}
use Rattle.std.proofs.lemmas.Bool.{eqb-true, ltb-false, leb-false, not-false, and_parts}
use Rattle.grib_bits.specs.Octets.{octets}
use Rattle.grib_bits.proofs.Logic.{left_false, right_false}
use Rattle.grib_base.specs.Rules.{first_fault}
use Rattle.grib_base.proofs.Passing.{passes_from_none, second_fails}
use Rattle.grib2_sections.specs.Template.{least_length}
use Rattle.grib_base.specs.declared.profile.Profile.{Profile}
use Rattle.grib2_grids.specs.Grid.{grid_rules, grid_templates}
use Rattle.grib2_grids.specs.Opaque.{is_opaque_grid, grid_rules_under}
use Rattle.grib2_grids.proofs.Under.{same_grid_rules, grid_header_length}
use Rattle.grib_rescan.specs.declared.points.Area.{Area}
use Rattle.grib_rescan.specs.declared.bounds.Bounds.{Bounds}
use Rattle.grib_rescan.specs.declared.cause.GridCause.{GridCause}
use Rattle.grib_rescan.specs.Sections.{HasPoints, HasTemplate, IsLatLon}
use Rattle.grib_rescan.specs.Bounds.{area_in, area_within}
use Rattle.grib_rescan.specs.Causes.{rescan_cause_of, crop_cause_of, within_cause_of, is_lat_lon, CanBeCut, HasWithin}
use Rattle.grib_rescan.proofs.Within.{found, is_box}

nonzero : (n : ℕ) → eqb n 0 ≡ false → 1 ≤ n
nonzero zero e = cc
nonzero (suc n) e = omega arith

factor : (a b n : ℕ) → a * b ≡ n → 1 ≤ n → 1 ≤ a
factor zero b n e some = absurd (omega (arith, e, some))
factor (suc a) b n e some = omega arith

factors : (a b n : ℕ) → a * b ≡ n → 1 ≤ n → 1 ≤ b
factors a zero n e some = absurd (omega (arith, e, some))
factors a (suc b) n e some = omega arith

below : (a b : ℕ) → leb a b ≡ false → b < a
below a b e = leb-false a b e

-- a grid of template 3.0 has the same rows under each profile
stated_rules : (profile : Profile) (s : List ℕ) → first_fault (grid_rules_under profile s) ≡ None → octets s 6 6 ≡ 0 → octets s 13 14 ≡ 0 → first_fault (grid_rules s) ≡ None
stated_rules profile s none source template =
    let stated : is_opaque_grid s ≡ false = rw (source, template) refl in ap first_fault (sym (same_grid_rules profile s stated)) ∙ none

lat_lon : (profile : Profile) (s : List ℕ) → first_fault (grid_rules_under profile s) ≡ None → octets s 6 6 ≡ 0 → octets s 13 14 ≡ 0 → octets s 11 11 ≡ 0 → IsLatLon s
lat_lon profile s none source template list =
    let p = passes_from_none (grid_rules s) (stated_rules profile s none source template) in
    let least : least_length grid_templates (octets s 13 14) ≤ length s = ltb-false _ _ p.1.1.1.0 in
    let unlisted : not (not (eqb (octets s 11 11) 0)) ≡ true = rw list refl in
    record {
      long = subst (λ (t : ℕ). least_length grid_templates t ≤ length s) template least;
      source = source;
      template = template;
      list = list;
      some = nonzero _ (left_false _ _ p.1.1.1.1.0);
      few = ltb-false _ _ (right_false _ _ p.1.1.1.1.0);
      product = eqb-true _ _ (not-false _ (second_fails _ _ p.1.1.1.1.1.1.1.1.1.1.0 unlisted));
    }

pub has_points : (s : List ℕ) → IsLatLon s → HasPoints s
has_points s is = record {
  long = is.long;
  columns = factor _ _ _ is.product is.some;
  rows = factors _ _ _ is.product is.some;
  few = omega (arith, is.product, is.few);
}

pub has_template : (profile : Profile) (s : List ℕ) → first_fault (grid_rules_under profile s) ≡ None → HasTemplate s
has_template profile s none = record {
  least = grid_header_length profile s none;
  points = λ source template list. has_points s (lat_lon profile s none source template list);
}

-- ---- causes

none_of : (b : Bool) (cause : GridCause) (later : Option GridCause) → cond b (Some cause) later ≡ None → (b ≡ false) × (later ≡ None)
none_of true cause later e = cc
none_of false cause later e = (refl, e)

lat_lon_by : (profile : Profile) (s : List ℕ) → first_fault (grid_rules_under profile s) ≡ None → not (is_lat_lon s) ≡ false → IsLatLon s
lat_lon_by profile s none is =
    let both = and_parts _ _ (not-false _ is) in
    let defined = and_parts _ _ both.0 in
    lat_lon profile s none (eqb-true _ _ defined.0) (eqb-true _ _ defined.1) (eqb-true _ _ both.1)

pub can_be_rescanned : (profile : Profile) (s : List ℕ) → first_fault (grid_rules_under profile s) ≡ None → rescan_cause_of s ≡ None → IsLatLon s
can_be_rescanned profile s none uncaused = lat_lon_by profile s none (none_of _ _ _ uncaused).0

pub can_be_cut : (profile : Profile) (area : Area) (s : List ℕ) → first_fault (grid_rules_under profile s) ≡ None → crop_cause_of area s ≡ None → CanBeCut area s
can_be_cut profile area s none uncaused =
    let kind = none_of _ _ _ uncaused in
    let order = none_of _ _ _ kind.1 in
    let outside = none_of _ _ _ order.1 in
    let steps = none_of _ _ _ outside.1 in
    record {
      lat_lon = lat_lon_by profile s none kind.0;
      order = eqb-true _ _ (not-false _ order.0);
      last_column = below _ _ (left_false _ _ outside.0);
      last_row = below _ _ (right_false _ _ outside.0);
      steps = not-false _ steps.0;
    }

pub has_within : (profile : Profile) (bounds : Bounds) (s : List ℕ) → first_fault (grid_rules_under profile s) ≡ None → within_cause_of bounds s ≡ None → HasWithin bounds s
has_within profile bounds s none uncaused =
    let kind = none_of _ _ _ uncaused in
    let order = none_of _ _ _ kind.1 in
    let steps = none_of _ _ _ order.1 in
    let outside = none_of _ _ _ steps.1 in
    let is = lat_lon_by profile s none kind.0 in
    let there = found (area_in bounds s) outside.0 in
    record {
      lat_lon = is;
      order = eqb-true _ _ (not-false _ order.0);
      steps = not-false _ steps.0;
      found = there;
      box = is_box bounds s (area_within bounds s) (has_points s is) there;
    }
