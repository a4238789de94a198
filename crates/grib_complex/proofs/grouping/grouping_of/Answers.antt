use Rattle.std.proofs.Common.{◌≡◌, List, IfOk, replicate, sym, ap, ◌∙◌, subst}
use Rattle.grib_base.specs.declared.code.Code.{Code}
use Rattle.grib_packing.specs.Groupings.{Chosen, header_bits, runs, width_of}
use Rattle.grib_groups.specs.Encoding.{AreMeasures}
use Rattle.grib_codes.specs.FieldCodes.{codes_in}
use Rattle.grib_complex.proofs.grouping.grouping_of.Goals as goal

pub returns-in-Each-clause-chosen : goal.returns-in-Each-clause-chosen
returns-in-Each-clause-chosen c =
    let k = c.args.management in
    let same : codes_in c.args.codes.now ≡ c.codes.result = ap codes_in c.in-Each.is ∙ sym c.codes.ensures in
    subst (λ (cs : List Code). IfOk c.grouping_of_each.result (λ grouping. Chosen (header_bits k cs) (width_of k) cs grouping.lengths.items)) (sym same) c.grouping_of_each.ensures.chosen

pub returns-in-Same-clause-chosen : goal.returns-in-Same-clause-chosen
returns-in-Same-clause-chosen c =
    let k = c.args.management in
    let same : codes_in c.args.codes.now ≡ replicate c.in-Same.count c.in-Same.code = ap codes_in c.in-Same.is in
    subst (λ (cs : List Code). IfOk c.grouping_of_same.result (λ grouping. Chosen (header_bits k cs) (width_of k) cs grouping.lengths.items)) (sym same) c.grouping_of_same.ensures.chosen

pub returns-in-Each-clause-known : goal.returns-in-Each-clause-known
returns-in-Each-clause-known c =
    let same : codes_in c.args.codes.now ≡ c.codes.result = ap codes_in c.in-Each.is ∙ sym c.codes.ensures in
    subst (λ (cs : List Code). IfOk c.grouping_of_each.result
    (λ grouping. AreMeasures grouping.layout.management grouping.layout.reference_bits grouping.measures.items (runs grouping.lengths.items cs))) (sym same) c.grouping_of_each.ensures.known

pub returns-in-Same-clause-known : goal.returns-in-Same-clause-known
returns-in-Same-clause-known c =
    let same : codes_in c.args.codes.now ≡ replicate c.in-Same.count c.in-Same.code = ap codes_in c.in-Same.is in
    subst (λ (cs : List Code). IfOk c.grouping_of_same.result
    (λ grouping. AreMeasures grouping.layout.management grouping.layout.reference_bits grouping.measures.items (runs grouping.lengths.items cs))) (sym same) c.grouping_of_same.ensures.known
