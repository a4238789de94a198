use Rattle.std.proofs.Common.{[], arith, ◌∙◌}
use Rattle.grib_packing.specs.Entries.{entries_of}
use Rattle.grib_base.proofs.Passing.{carried}
use Rattle.grib_simple_reading.proofs.Accepted.{same_column}
use Rattle.grib_packings.proofs.feeding.Feeding+Points.finish.Goals as goal

pub returns-in_err-points : goal.returns-in_err-points
returns-in_err-points c = λ s5 mask start s7 agrees. carried _ _ _ _ c.from_residual.ensures.1 (c.in_err-points.ensures s5 agrees.first start s7 agrees.read)

pub returns : goal.returns
returns c = λ s5 mask start s7 agrees.
    let all = c.in_ok-points.ensures s5 agrees.first start s7 agrees.read in
    let kept = all.1.keeps mask [] (omega (arith, all.2, agrees.counted)) agrees.empty in
    (all.0, c.column.ensures ∙ same_column s5 _ _ _ _ _ agrees.read.spelled.reference agrees.read.spelled.e agrees.read.spelled.d (c.finish.ensures mask (entries_of s5 s7) kept))
