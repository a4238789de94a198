use Rattle.std.proofs.Common.{arith}
use Rattle.std.proofs.lemmas.List.Sums.{count_by-le-length}
use Rattle.grib_report.proofs.Masked.{summary_placed}
use Rattle.grib_report.proofs.placing.placed.Goals as goal

pub returns : goal.returns
returns c = λ entries long sums.
    let mask = c.args.mask.now in
    summary_placed mask entries c.args.summary long sums _ _
    (omega (arith, c.len.ensures, c.ones.ensures, count_by-le-length (λ b. b) mask))
    (c.placed_extremes.ensures entries long sums.extremes_are)
