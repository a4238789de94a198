use Rattle.std.proofs.Common.{◌≡◌, ◌≤◌, ℕ, List, [], length, ap, subst, rules}
use Rattle.std.specs.Prelude.{unwrap_or}
use Rattle.grib1_sections.specs.Acceptance.{grid}
use Rattle.grib_values.proofs.Lengths.{long_grid}
use Rattle.grib_values.proofs.arraying.shape_of_message.Goals as goal

pub first_shape-requires : goal.first_shape-requires
first_shape-requires c =
    let same : grid c.args.message.now ≡ c.in-Some.section2.now = ap (λ s. unwrap_or s []) c.in-Some.ensures.section in
    record {
      long = subst (λ s. 28 ≤ length s) same (long_grid (grid c.args.message.now) c.section.ensures.passes.grid_stands.rules_hold);
      points = search rules;
    }
