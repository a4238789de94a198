use Rattle.std.proofs.Common.{◌++◌, ◌≤◌, List, length, sym, ap, ◌∙◌, arith, subst}
use Rattle.std.proofs.lemmas.List.{length-replicate}
use Rattle.grib_base.specs.declared.code.Code.{Code}
use Rattle.grib_packing.specs.Groupings.{runs}
use Rattle.grib_packing.specs.Packed.{group_parts}
use Rattle.grib_codes.specs.FieldCodes.{codes_in}
use Rattle.grib_groups.specs.Encoding.{AreMeasures, LaysOut}
use Rattle.grib_complex.proofs.writing.put_groups.Goals as goal

pub encode_measured_groups-requires-clause-lays_out : goal.encode_measured_groups-requires-clause-lays_out
encode_measured_groups-requires-clause-lays_out c =
    subst (λ (cs : List Code). LaysOut c.args.layout.now cs c.args.lengths.now) (ap codes_in c.in-Each.is ∙ sym c.codes.ensures) c.requires.lays_out

pub encode_measured_groups-requires-clause-known : goal.encode_measured_groups-requires-clause-known
encode_measured_groups-requires-clause-known c =
    subst (λ (cs : List Code). AreMeasures c.args.layout.now.management c.args.layout.now.reference_bits c.args.known.now (runs c.args.lengths.now cs)) (ap codes_in c.in-Each.is ∙ sym c.codes.ensures) c.requires.known

pub encode_measured_groups-requires-clause-room : goal.encode_measured_groups-requires-clause-room
encode_measured_groups-requires-clause-room c =
    subst (λ (cs : List Code). length (group_parts c.args.layout.now.management cs c.args.lengths.now) ≤ c.args.out.now.spare) (ap codes_in c.in-Each.is ∙ sym c.codes.ensures) c.requires.room

pub encode_same-requires-clause-lays_out : goal.encode_same-requires-clause-lays_out
encode_same-requires-clause-lays_out c =
    subst (λ (cs : List Code). LaysOut c.args.layout.now cs c.args.lengths.now) (ap codes_in c.in-Same.is) c.requires.lays_out

pub encode_same-requires-clause-some : goal.encode_same-requires-clause-some
encode_same-requires-clause-some c = omega (arith, ap length (ap codes_in c.in-Same.is), length-replicate c.in-Same.count c.in-Same.code, c.requires.some)

pub encode_same-requires-clause-room : goal.encode_same-requires-clause-room
encode_same-requires-clause-room c =
    subst (λ (cs : List Code). length (group_parts c.args.layout.now.management cs c.args.lengths.now) ≤ c.args.out.now.spare) (ap codes_in c.in-Same.is) c.requires.room

pub returns-in-Each : goal.returns-in-Each
returns-in-Each c =
    c.encode_measured_groups.ensures.bits
    ∙ ap (λ (cs : List Code). c.args.out.now.bits ++ group_parts c.args.layout.now.management cs c.args.lengths.now) (sym (ap codes_in c.in-Each.is ∙ sym c.codes.ensures))

pub returns-in-Same : goal.returns-in-Same
returns-in-Same c =
    c.encode_same.ensures.bits
    ∙ ap (λ (cs : List Code). c.args.out.now.bits ++ group_parts c.args.layout.now.management cs c.args.lengths.now) (sym (ap codes_in c.in-Same.is))
