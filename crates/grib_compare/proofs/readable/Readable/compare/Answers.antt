use Rattle.std.proofs.Common.{cond, sym, ap, ◌∙◌}
use Rattle.grib_compare.specs.declared.comparison.Comparison.TheVariants.{Same}
use Rattle.grib_compare.specs.Fields.{meanings, by_points, by_sections}
use Rattle.grib_compare.specs.Seen.{readable_field}
use Rattle.grib_compare.proofs.Columns.{points_then, points_differ}
use Rattle.grib_compare.proofs.readable.Readable.compare.Goals as goal

pub returns-then-sections : goal.returns-then-sections
returns-then-sections c =
    let left = readable_field c.args.self.now c.args.field in
    let right = readable_field c.args.other.now c.args.other_field in
    c.compare_sections.ensures
    ∙ sym
    (ap (λ b. by_points (meanings left) (meanings right) (cond b (by_sections left right) Same)) c.if-sections.true
    ∙ points_then (meanings left) (meanings right) (by_sections left right) (sym c.in_ok-different.ensures ∙ c.in-Same.is))

pub returns-in_default : goal.returns-in_default
returns-in_default c =
    let left = readable_field c.args.self.now c.args.field in
    let right = readable_field c.args.other.now c.args.other_field in
    sym
    (points_differ (meanings left) (meanings right) (cond c.args.sections (by_sections left right) Same) c.in_ok-different.different (sym c.in_ok-different.ensures) c.in_default.not-Same)
