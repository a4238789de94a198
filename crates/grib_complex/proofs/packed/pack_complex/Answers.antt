use Rattle.std.proofs.Common.{◌≡◌, List, Some, length, ap, ◌∙◌, arith, subst}
use Rattle.std.proofs.lemmas.List.{length-map}
use Rattle.grib_packing.specs.declared.column.Point.{Point}
use Rattle.grib_packing.specs.Misfits.{OutOfRange, ToComplex, first_misfit}
use Rattle.grib_codes.specs.KeptWords.{word_for}
use Rattle.grib_complex.proofs.packed.pack_complex.Goals as goal

pub returns-in_default : goal.returns-in_default
returns-in_default c =
    subst (λ (points : List Point). first_misfit ToComplex points ≡ Some (OutOfRange c.first_outside.result)) c.as_slice-points.ensures c.first_outside.ensures

pub pack_codes-requires-clause-some : goal.pack_codes-requires-clause-some
pack_codes-requires-clause-some c =
    let long = ap length c.in_ok-of.ensures.words ∙ length-map _ word_for ∙ ap length c.as_slice-points.ensures in
    omega (arith, c.in-Some.ensures.long, long, c.requires.some)

pub pack_codes-requires-clause-most : goal.pack_codes-requires-clause-most
pack_codes-requires-clause-most c =
    let long = ap length c.in_ok-of.ensures.words ∙ length-map _ word_for ∙ ap length c.as_slice-points.ensures in
    omega (arith, c.in-Some.ensures.long, long, c.requires.few)
