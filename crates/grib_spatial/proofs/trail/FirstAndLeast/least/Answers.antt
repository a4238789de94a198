use Rattle.std.proofs.Common.{◌+◌, ◌≤◌, ap₂, sym, ◌∙◌, arith, w64, SFits, to_z-of_z, rules}
use Rattle.grib_packing.specs.Differences.{difference_at, lesser}
use Rattle.grib_spatial.proofs.Least.{least-more}
use Rattle.grib_spatial.proofs.trail.FirstAndLeast.least.Goals as goal

pub returns : goal.returns
returns c numbers told is =
    let order = c.args.order in
    let n = c.args.self.trail.count in
    let f = difference_at order numbers in
    let fits : SFits w64 c.lesser_of.result = search rules in
    let minimum : SFits w64 c.args.self.minimum = search rules in
    let difference : SFits w64 c.difference-difference.result = search rules in
    let more : order + 1 ≤ n = omega (arith, c.if-self-from.false, c.if-self-from-2.false, c.from.ensures, c.from-2.ensures) in
    to_z-of_z fits ∙ c.lesser_of.ensures
    ∙ ap₂ lesser (to_z-of_z minimum ∙ told.minimum) (to_z-of_z difference ∙ c.difference-difference.ensures.is numbers told.trail (is ∙ sym (to_z-of_z c.ranges.x)))
    ∙ sym (least-more f order n more)
