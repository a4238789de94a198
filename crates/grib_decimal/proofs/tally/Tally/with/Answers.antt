use Rattle.std.proofs.Common.{◌≡◌, ◌+◌, ◌%◌, FitsSigned, to_z-of_z, sym, ap, ◌∙◌, arith, refl, rules}
use Rattle.std.specs.Int.{w64}
use Rattle.grib_packing.specs.declared.column.Point.TheVariants.{Scaled}
use Rattle.grib_decimal.proofs.Summaries.{one_scaled, one_missing, one_missing2}
use Rattle.grib_decimal.proofs.tally.Tally.with.Goals as goal

pub returns-in-Scaled : goal.returns-in-Scaled
returns-in-Scaled c points n few within here old =
    let fits : FitsSigned w64 c.in-Scaled.number = search rules in
    let is = here ∙ c.in-Scaled.is ∙ ap Scaled (sym (to_z-of_z fits)) in
    let next : (c.args.self.count + 1) % 4294967296 ≡ n + 1 = omega (arith, old.count_is) in
    one_scaled points n _ c.args.self _ c.with.result c.with-in-Scaled.result within is next (c.with.ensures points n (sym next) is old.least_is) (c.with-in-Scaled.ensures points n (sym next) is old.greatest_is) old

pub returns-in-Missing : goal.returns-in-Missing
returns-in-Missing c points n few within here old =
    one_missing points n c.args.self _ _ few within (here ∙ c.in-Missing.is) (omega (arith, old.count_is)) refl old

pub returns-in-Missing2 : goal.returns-in-Missing2
returns-in-Missing2 c points n few within here old =
    one_missing2 points n c.args.self _ _ few within (here ∙ c.in-Missing2.is) (omega (arith, old.count_is)) refl old
