-- A Section 2 that no rule refuses has its scanning mode.
use Rattle.std.proofs.Common.{◌≡◌, ℕ, ◌≤◌, true, List, length, arith, ltb-false}
use Rattle.std.proofs.lemmas.Bool.{not-false}
use Rattle.std.proofs.lemmas.Bool.Decides.{nat_tests}
use Rattle.std.specs.Prelude.{None}
use Rattle.grib_base.specs.Rules.{first_fault}
use Rattle.grib_base.proofs.Passing.{passes_from_none}
use Rattle.grib2_sections.specs.Template.{is_template, least_length}
use Rattle.grib1_sections.specs.Grid.{grid_rules, grid_types, grid_type}

least-low : (t : ℕ) → is_template grid_types t ≡ true → 32 ≤ least_length grid_types t
least-low t known = grind (arith, nat_tests)

pub long_grid : (s : List ℕ) → first_fault (grid_rules s) ≡ None → 28 ≤ length s
long_grid s none =
    let rules = passes_from_none (grid_rules s) none in
    let known = not-false (is_template grid_types (grid_type s)) rules.0 in
    let long = ltb-false (length s) (least_length grid_types (grid_type s)) rules.1.0 in
    omega (arith, long, least-low (grid_type s) known)
