use Rattle.std.proofs.Common.{ap, ◌∙◌}
use Rattle.grib_dyadic.specs.Reference.{ieee, reduced}
use Rattle.grib_packing.specs.declared.column.Column.{Column}
use Rattle.grib_report.specs.Valuing.{range_cause}
use Rattle.grib_report.proofs.Finite.{finite_column}
use Rattle.grib_report.proofs.valuing.field_cause.Goals as goal

pub ieee_reference-reference-requires : goal.ieee_reference-reference-requires
ieee_reference-reference-requires c = record {
  finite = finite_column c.args.message.now c.args.field c.in_ok-column.column c.column.ensures.passes c.in_ok-column.ensures.column;
}

pub returns : goal.returns
returns c =
    let places = c.args.places in
    let i = c.args.field in
    c.range_cause.ensures ∙ ap (λ r. range_cause places i r c.in_ok-column.column) c.ieee_reference-reference.ensures.value
    ∙ ap (λ (x : Column). range_cause places i (reduced (ieee x.reference)) x) c.in_ok-column.ensures.column
