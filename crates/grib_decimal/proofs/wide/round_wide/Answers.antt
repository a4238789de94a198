use Rattle.grib_decimal.proofs.Roundings.{large_number}
use Rattle.grib_decimal.proofs.wide.round_wide.Goals as goal

pub returns-in_err-number : goal.returns-in_err-number
returns-in_err-number c v places known f d =
    let large = rw c.in_err-number.was at known in
    rw c.from_residual.ensures (large_number v places large)
