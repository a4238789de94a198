use Rattle.std.proofs.Common.{◌≤◌, length, arith}
use Rattle.std.proofs.lemmas.Result.{IfOk-weaker}
use Rattle.grib_base.specs.declared.limits.TheConstants.{MOST_POINTS}
use Rattle.grib_packing.specs.declared.column.Column.{Column}
use Rattle.grib1_sections.proofs.Columns.{length-column}
use Rattle.grib1_sections.proofs.message.Message1.column1.Goals as goal

pub returns-clause-some : goal.returns-clause-some
returns-clause-some c =
    IfOk-weaker c.read_column.result _ (λ (column : Column). 1 ≤ length column.points)
    (λ column is. omega (arith, length-column c.args.self.now c.present_section.result.now c.present_section-2.result.now c.section.result c.points.result c.section.ensures.passes c.section.ensures.section c.points.ensures.points column is, c.points.ensures.points, c.points.ensures.some))
    c.read_column.ensures

pub returns-clause-few : goal.returns-clause-few
returns-clause-few c =
    IfOk-weaker c.read_column.result _ (λ (column : Column). length column.points ≤ MOST_POINTS)
    (λ column is. omega (arith, length-column c.args.self.now c.present_section.result.now c.present_section-2.result.now c.section.result c.points.result c.section.ensures.passes c.section.ensures.section c.points.ensures.points column is, c.points.ensures.points, c.points.ensures.few))
    c.read_column.ensures
