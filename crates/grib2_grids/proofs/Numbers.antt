-- What a section has that no rule refuses.
use Rattle.std.proofs.Common.{◌≡◌, ℕ, ◌-◌, ◌*◌, ◌≤◌, ◌+◌, true, eqb, List, length, arith, ltb-false}
use Rattle.std.proofs.lemmas.Bool.{not-false, eqb-true}
use Rattle.std.proofs.lemmas.Bool.Decides.{nat_tests}
use Rattle.std.specs.Prelude.{None}
use Rattle.grib_base.specs.Rules.{first_fault}
use Rattle.grib_base.proofs.Passing.{passes_from_none}
use Rattle.grib2_sections.specs.Template.{is_template, least_length}
use Rattle.grib2_grids.specs.Grid.{grid_rules, grid_templates, grid_source, grid_template, list_octets, list_start, may_have_list, nj}
use Rattle.grib2_grids.specs.Whole.{HasNumbers}
use Rattle.grib2_grids.proofs.Passing.{listed_test, octets_test}

least-low : (t : ℕ) → is_template grid_templates t ≡ true → 65 ≤ least_length grid_templates t
least-low t known = grind (arith, nat_tests)

pub has_numbers : (s : List ℕ) → first_fault (grid_rules s) ≡ None → HasNumbers s
has_numbers s none =
    let rules = passes_from_none (grid_rules s) none in
    let known = not-false (is_template grid_templates (grid_template s)) rules.1.1.0 in
    let long = ltb-false (length s) (least_length grid_templates (grid_template s)) rules.1.1.1.0 in
    let octets = octets_test (list_octets s) (may_have_list (grid_template s)) rules.1.1.1.1.1.1.0 in
    record {
      template = record {
        source = eqb-true (grid_source s) 0 (not-false (eqb (grid_source s) 0) rules.1.0);
        known = known;
        long = long;
        least = omega (arith, long, least-low (grid_template s) known);
      };
      list = record {
        word = octets.0;
        long = λ some. ltb-false (length s) (list_start s - 1 + list_octets s * nj s) (listed_test (list_octets s) _ rules.1.1.1.1.1.1.1.1.0 some);
      };
      may_list = octets.1;
    }
