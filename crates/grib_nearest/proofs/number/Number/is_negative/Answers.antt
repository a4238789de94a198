use Rattle.std.proofs.Common.{FitsSigned, to_z-of_z, sym, ap, ◌∙◌, ◌^◌, rules}
use Rattle.std.specs.Int.{w64, is_negative}
use Rattle.grib_decimal.proofs.Fields.{small_number}
use Rattle.grib_nearest.specs.Numbers.{number_of}
use Rattle.grib_nearest.proofs.Parts.{far_sign, low_below}
use Rattle.grib_nearest.proofs.number.Number.is_negative.Goals as goal

pub returns-in-Far : goal.returns-in-Far
returns-in-Far c =
    let sum = c.in-Far.sum in
    let fits : FitsSigned w64 sum.high = search rules in
    let low : FitsSigned w64 sum.low = search rules in
    c.is_below_zero.ensures ∙ ap is_negative (to_z-of_z fits)
    ∙ sym (far_sign sum.high sum.low (2 ^ sum.gap) sum.some (low_below sum.low sum.gap (small_number sum.low low) sum.far))
    ∙ ap (λ n. is_negative (number_of n)) (sym c.in-Far.is)
