use Rattle.std.proofs.Common.{Bool, List, [], arith, ◌∙◌, subst}
use Rattle.grib_base.proofs.Passing.{carried}
use Rattle.grib_packing.specs.Entries.{entries_of}
use Rattle.grib_packing.specs.Kept.{ArePoints}
use Rattle.grib_simple_reading.proofs.Accepted.{same_column}
use Rattle.grib_complex.proofs.unpacking.unpack_complex.Goals as goal

pub returns : goal.returns
returns c =
    let s5 = c.args.section5.now.octets.now in
    let s7 = c.args.section7.now.octets.now in
    let mask = c.args.mask.now in
    let spelled = c.accepted_complex-complex.ensures.spelled in
    let empty = subst (λ (m : List Bool). ArePoints m [] c.in_ok-points.points) c.in_ok-copy.ensures c.in_ok-points.ensures in
    let all = c.in_ok-points-2.ensures s5 spelled in
    let kept = all.1.keeps mask [] (omega (arith, all.2, c.requires.values)) empty in
    (all.0, c.column.ensures ∙ same_column s5 _ _ _ _ _ spelled.simple.reference spelled.simple.e spelled.simple.d (c.finish.ensures mask (entries_of s5 s7) kept))

pub returns-in_err-points-2 : goal.returns-in_err-points-2
returns-in_err-points-2 c = carried _ _ _ _ c.from_residual-in_err-points-2.ensures.1 (c.in_err-points-2.ensures c.args.section5.now.octets.now c.accepted_complex-complex.ensures.spelled)
