use Rattle.std.proofs.Common.{FitsSigned, ◌^◌, sym, ap, ◌∙◌, rules}
use Rattle.std.specs.Int.{w64}
use Rattle.grib_decimal.proofs.Fields.{small_number}
use Rattle.grib_nearest.specs.Numbers.{number_of}
use Rattle.grib_nearest.proofs.Parts.{far_some, low_below}
use Rattle.grib_nearest.proofs.number.Number.is_zero.Goals as goal

pub returns-in-Far-clause-some : goal.returns-in-Far-clause-some
returns-in-Far-clause-some c =
    let sum = c.in-Far.field-0 in
    let low : FitsSigned w64 sum.low = search rules in
    λ _ zero. far_some sum.high sum.low (2 ^ sum.gap) sum.some (low_below sum.low sum.gap (small_number sum.low low) sum.far) (sym (ap number_of c.in-Far.is) ∙ zero)
