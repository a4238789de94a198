use Rattle.std.proofs.Common.{sym, ◌∙◌, arith, w64, SFits, to_z-of_z, rules}
use Rattle.grib_spatial.proofs.Telling.{late_code}
use Rattle.grib_spatial.proofs.trail.Trail.code.Goals as goal

pub returns : goal.returns
returns c numbers trail is least =
    let difference : SFits w64 c.difference.result = search rules in
    c.abs_diff.ensures
    ∙ late_code c.args.order numbers c.args.self.count _ _ (omega (arith, c.if-self-from.false, c.from.ensures))
    (to_z-of_z difference ∙ c.difference.ensures.is numbers trail (is ∙ sym (to_z-of_z c.ranges.x))) (to_z-of_z c.ranges.minimum ∙ least)
