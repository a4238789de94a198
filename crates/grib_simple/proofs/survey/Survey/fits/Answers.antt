use Rattle.std.proofs.Common.{arith}
use Rattle.grib_simple.proofs.Seen.{secondary_first, too_wide_first, all_fit}
use Rattle.grib_simple.proofs.survey.Survey.fits.Goals as goal

pub returns-then-self-gt0 : goal.returns-then-self-gt0
returns-then-self-gt0 c most points h = secondary_first most points c.args.self.secondary h.secondary (omega arith)

pub returns-then-self-gt0-2 : goal.returns-then-self-gt0-2
returns-then-self-gt0-2 c most points h = too_wide_first most points c.args.self.secondary c.args.self.too_wide h.secondary h.too_wide (omega arith) (omega arith)

pub returns : goal.returns
returns c most points h = all_fit most points c.args.self.secondary c.args.self.too_wide h.secondary h.too_wide (omega arith) (omega arith)
