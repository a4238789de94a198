use Rattle.std.proofs.Common.{option_map, sym, ap, ◌∙◌}
use Rattle.grib_reasons.specs.declared.cause.Cause.TheVariants.{DecimalRange}
use Rattle.grib2_message.specs.Fields.{column_of}
use Rattle.grib_decimal.specs.Range.{first_too_large}
use Rattle.grib_dyadic.specs.Reference.{ieee}
use Rattle.grib_report.proofs.Causes.{scale_of}
use Rattle.grib_report.proofs.Finite.{finite_reference}
use Rattle.grib_report.proofs.valuing.fits_field.Goals as goal

pub ieee_reference-reference-requires : goal.ieee_reference-reference-requires
ieee_reference-reference-requires c = record {
  finite = finite_reference c.args.message.now c.args.field c.field_scaling-scaling.result.reference c.field_scaling-scaling.ensures.passes c.field_scaling-scaling.ensures.reference;
}

pub returns : goal.returns
returns c = λ holds.
    let scaling = c.field_scaling-scaling in
    let column = column_of c.args.message.now c.args.field in
    let none = c.holds_all.ensures holds column.points scaling.ensures.small in
    let scale = scale_of c.args.places column ieee c.ieee_reference-reference.result scaling.result.reference scaling.result.e scaling.result.d
    c.ieee_reference-reference.ensures.value scaling.ensures.reference scaling.ensures.e scaling.ensures.d in
    ap (option_map (λ point. DecimalRange c.args.field point)) (ap (λ s. first_too_large s column.points) (sym scale ∙ sym c.of.ensures) ∙ none)
