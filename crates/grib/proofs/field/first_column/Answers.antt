use Rattle.std.proofs.Common.{◌≡◌, length, ap, ◌∙◌}
use Rattle.std.proofs.lemmas.Result.{IfOk-weaker}
use Rattle.grib_packing.specs.declared.column.Column.{Column}
use Rattle.grib1_sections.specs.Acceptance.{points_of}
use Rattle.grib.proofs.Counts.{first_points}
use Rattle.grib.proofs.field.first_column.Goals as goal

pub returns-clause-count : goal.returns-clause-count
returns-clause-count c =
    let message = c.args.message.now in
    IfOk-weaker c.column1.result _ (λ (column : Column). length column.points ≡ points_of message)
    (λ column is. ap (λ (x : Column). length x.points) is ∙ first_points message c.octets.ensures.passes) c.column1.ensures.column
