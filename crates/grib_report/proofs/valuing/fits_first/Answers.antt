use Rattle.std.proofs.Common.{option_map, sym, ap, ◌∙◌}
use Rattle.grib_reasons.specs.declared.cause.Cause.TheVariants.{DecimalRange}
use Rattle.grib1_sections.specs.Column.{column1_of}
use Rattle.grib_decimal.specs.Range.{first_too_large}
use Rattle.grib_report.proofs.Causes.{scale_of}
use Rattle.grib_dyadic.specs.Reference.{ibm}
use Rattle.grib_report.proofs.valuing.fits_first.Goals as goal

pub returns : goal.returns
returns c = λ holds.
    let scaling = c.message_scaling1-scaling in
    let points = (column1_of c.args.message.now).points in
    let none = c.holds_all.ensures holds points scaling.ensures.small in
    let scale = scale_of c.args.places (column1_of c.args.message.now) ibm c.from_ibm-reference.result scaling.result.reference scaling.result.e scaling.result.d
    c.from_ibm-reference.ensures.value scaling.ensures.reference scaling.ensures.e scaling.ensures.d in
    ap (option_map (λ point. DecimalRange 1 point)) (ap (λ s. first_too_large s points) (sym scale) ∙ ap (λ s. first_too_large s points) (sym c.of.ensures) ∙ none)
