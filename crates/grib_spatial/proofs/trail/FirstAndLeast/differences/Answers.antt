use Rattle.std.proofs.Common.{◌∙◌, w64, SFits, to_z-of_z, rules}
use Rattle.grib_spatial.proofs.Telling.{told_whole}
use Rattle.grib_spatial.proofs.trail.FirstAndLeast.differences.Goals as goal

pub returns : goal.returns
returns c order numbers told is =
    let first : SFits w64 c.args.self.first = search rules in
    let second : SFits w64 c.args.self.second = search rules in
    let minimum : SFits w64 c.args.self.minimum = search rules in
    (λ i. record { order = order; first = to_z-of_z first i; second = to_z-of_z second i; minimum = to_z-of_z minimum i })
    ∙ told_whole order c.args.self numbers told is
