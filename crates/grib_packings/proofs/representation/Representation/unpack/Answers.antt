use Rattle.std.proofs.Common.{Bool, List, [], length, drop, sym, ◌∙◌, subst}
use Rattle.grib_base.proofs.Passing.{refused}
use Rattle.grib_packings.specs.Field.{Represents}
use Rattle.grib_packing.specs.Kept.{ArePoints}
use Rattle.grib_packings.proofs.Represented.{simple_width, values_alike}
use Rattle.grib_packings.proofs.Read.{column_agrees}
use Rattle.grib_packings.proofs.representation.Representation.unpack.Goals as goal

pub unpack_simple-requires-clause-width : goal.unpack_simple-requires-clause-width
unpack_simple-requires-clause-width c =
    let here = subst (λ r. Represents r c.requires.0) c.in-Simple.is c.requires.1 in
    simple_width c.in-Simple.simple c.requires.0 here

pub unpack_simple-requires-clause-values : goal.unpack_simple-requires-clause-values
unpack_simple-requires-clause-values c =
    let here = subst (λ r. Represents r c.requires.0) c.in-Simple.is c.requires.1 in
    c.requires.2 ∙ sym here.numbers.1.values

pub returns-in-Simple : goal.returns-in-Simple
returns-in-Simple c = λ s5 read.
    let here = subst (λ r. Represents r s5) c.in-Simple.is read in
    c.unpack_simple.ensures s5 here.numbers.1 here.numbers.0

pub returns : goal.returns
returns c = λ s5 read.
    let s7 = c.args.section7.now.octets.now in
    let mask = c.args.mask.now in
    let counted = c.requires.2 ∙ values_alike c.args.self.now c.requires.0 s5 c.requires.1 read in
    c.in_ok-finish.ensures s5 mask c.args.section7.now.start s7 (column_agrees s5 mask c.args.section7.now.start (length s7) (drop 5 s7) c.in_ok-points.points (subst (λ (m : List Bool). ArePoints m [] c.in_ok-points.points) c.in_ok-copy.ensures c.in_ok-points.ensures) counted c.in_ok-whole.field-0 (c.in_ok-whole.ensures.read s5 read))

pub returns-in_err-finish : goal.returns-in_err-finish
returns-in_err-finish c = λ s5 read.
    let s7 = c.args.section7.now.octets.now in
    let mask = c.args.mask.now in
    let counted = c.requires.2 ∙ values_alike c.args.self.now c.requires.0 s5 c.requires.1 read in
    refused _ _ _ _ c.from_residual-in_err-finish.ensures.1 (c.in_err-finish.ensures s5 mask c.args.section7.now.start s7 (column_agrees s5 mask c.args.section7.now.start (length s7) (drop 5 s7) c.in_ok-points.points (subst (λ (m : List Bool). ArePoints m [] c.in_ok-points.points) c.in_ok-copy.ensures c.in_ok-points.ensures) counted c.in_ok-whole.field-0 (c.in_ok-whole.ensures.read s5 read)))
