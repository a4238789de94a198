use Rattle.std.proofs.Common.{length, FitsSigned, to_z-of_z, sym, ◌∙◌, subst, rules}
use Rattle.std.specs.Int.{w64}
use Rattle.grib_decimal.specs.Bounds.{AreExtremesSoFar}
use Rattle.grib_report.proofs.Masked.{none_placed, some_placed}
use Rattle.grib_report.proofs.placing.placed_extremes.Goals as goal

pub returns-in_err-extremes : goal.returns-in_err-extremes
returns-in_err-extremes c = λ entries long are.
    c.from_residual.ensures ∙ sym (none_placed c.args.mask.now entries long (subst (AreExtremesSoFar entries (length entries)) c.in_err-extremes.was are))

pub returns : goal.returns
returns c = λ entries long are.
    let m = c.in_ok-extremes.extremes in
    let least_fits : FitsSigned w64 m.least = search rules in
    let greatest_fits : FitsSigned w64 m.greatest = search rules in
    rw (to_z-of_z least_fits, to_z-of_z greatest_fits, c.place_of.ensures, c.place_of-2.ensures)
    (some_placed c.args.mask.now entries long m (subst (AreExtremesSoFar entries (length entries)) c.in_ok-extremes.was are))
