use Rattle.std.proofs.Common.{◌≡◌, pos, ap, ◌∙◌, to_z-of_z, FitsSigned, rules}
use Rattle.std.specs.Int.{w64, int_max}
use Rattle.grib_decimal.specs.Decimal.{or_0}
use Rattle.grib_decimal.proofs.Powers.{ten_to, or_0_max}
use Rattle.grib_decimal.proofs.power.power_of_ten.Goals as goal

pub pow-requires : goal.pow-requires
pow-requires c =
    let f : FitsSigned w64 c.max.result = search rules in
    let e : c.max.result ≡ pos (or_0 c.args.tens) = c.max.ensures.value ∙ ap (λ z. int_max z (pos 0)) (to_z-of_z c.ranges.tens) ∙ or_0_max c.args.tens in
    rw (to_z-of_z f) (ten_to c.args.tens c.max.result c.requires e)
