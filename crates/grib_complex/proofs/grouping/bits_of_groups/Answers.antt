use Rattle.std.proofs.Common.{◌≡◌, ℕ, List, length, map, replicate, sym, ap, ◌∙◌, subst}
use Rattle.std.proofs.lemmas.List.{length-replicate}
use Rattle.grib_base.specs.declared.code.Code.{Code}
use Rattle.grib_packing.specs.Groupings.{IsGrouping, joined, runs}
use Rattle.grib_packing.specs.Packed.{group_fields}
use Rattle.grib_groups.proofs.Same.{no_numbers}
use Rattle.grib_codes.specs.FieldCodes.{codes_in}
use Rattle.grib_complex.proofs.grouping.bits_of_groups.Goals as goal

pub returns-in-Same-clause-is : goal.returns-in-Same-clause-is
returns-in-Same-clause-is c b =
    let k = c.args.reserved in
    let lengths = c.args.lengths.now in
    let same : codes_in c.args.codes.now ≡ replicate c.in-Same._count c.in-Same._code = ap codes_in c.in-Same.is in
    let grouping : IsGrouping c.in-Same._count lengths =
    subst (λ (n : ℕ). IsGrouping n lengths) (ap length same ∙ length-replicate c.in-Same._count c.in-Same._code) c.requires.grouping in
    sym (ap length (ap (λ (cs : List Code). joined (map (group_fields k b) (runs lengths cs))) same ∙ no_numbers c.in-Same._code k b c.in-Same._count lengths grouping))
