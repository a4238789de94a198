use Rattle.std.proofs.Common.{ap, ◌∙◌}
use Rattle.grib_dyadic.specs.Reference.{ibm, reduced}
use Rattle.grib_packing.specs.declared.column.Column.{Column}
use Rattle.grib_report.specs.Valuing.{range_cause}
use Rattle.grib_report.proofs.valuing.first_cause.Goals as goal

pub returns : goal.returns
returns c =
    let places = c.args.places in
    c.range_cause.ensures ∙ ap (λ r. range_cause places 1 r c.in_ok-column.column) c.from_ibm-reference.ensures.value
    ∙ ap (λ (x : Column). range_cause places 1 (reduced (ibm x.reference)) x) c.in_ok-column.ensures.column
