use Rattle.std.proofs.Common.{◌≡◌, None, Some, option_map, sym, ap, ◌∙◌}
use Rattle.grib_reasons.specs.declared.cause.Cause.TheVariants.{DecimalRange}
use Rattle.grib_decimal.specs.Range.{first_too_large}
use Rattle.grib_report.specs.Valuing.{scale_by}
use Rattle.grib_report.proofs.valuing.range_cause.Goals as goal

pub returns-in_err-point : goal.returns-in_err-point
returns-in_err-point c =
    let points = c.args.column.now.points in
    let scale = scale_by c.args.places c.args.reference.now c.args.column.now in
    let none : first_too_large scale points ≡ None = ap (λ s. first_too_large s points) (sym c.of-scale.ensures) ∙ sym c.first_too_large.ensures ∙ c.in_err-point.was in
    c.from_residual.ensures ∙ sym (ap (option_map (λ n. DecimalRange c.args.field n)) none)

pub returns : goal.returns
returns c =
    let points = c.args.column.now.points in
    let scale = scale_by c.args.places c.args.reference.now c.args.column.now in
    let found : first_too_large scale points ≡ Some c.in_ok-point.point =
    ap (λ s. first_too_large s points) (sym c.of-scale.ensures) ∙ sym c.first_too_large.ensures ∙ c.in_ok-point.was in
    sym (ap (option_map (λ n. DecimalRange c.args.field n)) found)
