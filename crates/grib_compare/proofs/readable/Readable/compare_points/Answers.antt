use Rattle.std.proofs.Common.{◌≡◌, IfOk, subst}
use Rattle.grib_compare.specs.declared.comparison.Comparison.TheVariants.{Same}
use Rattle.grib_compare.proofs.Columns.{points_beside}
use Rattle.grib_compare.proofs.readable.Readable.compare_points.Goals as goal

pub returns : goal.returns
returns c =
    subst (λ x. IfOk c.beside.result (λ comparison. comparison ≡ x)) (points_beside _ _ _ _ Same c.in_ok-here.ensures c.in_ok-there.ensures) c.beside.ensures
