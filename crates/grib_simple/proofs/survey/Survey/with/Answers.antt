use Rattle.std.proofs.Common.{◌-◌, ◌∷◌, ℤ, sym, subst, w64, SFits, to_z-of_z, rules}
use Rattle.grib_packing.specs.declared.column.Point.{Point}
use Rattle.grib_packing.specs.declared.column.Point.TheVariants.{Scaled}
use Rattle.grib_simple.specs.Survey.{Surveys}
use Rattle.grib_simple.proofs.survey.Survey.with.Goals as goal

pub returns-in-Scaled-clause-survey : goal.returns-in-Scaled-clause-survey
returns-in-Scaled-clause-survey c rest points h =
    let fits : SFits w64 c.in-Scaled.x = search rules in
    let here = subst (λ (p : Point). Surveys c.args.most c.args.self (c.args.place - 1) (p ∷ rest) points) c.in-Scaled.is h in
    c.with_number.ensures.survey rest points
    (subst (λ (z : ℤ). Surveys c.args.most c.args.self (c.args.place - 1) (Scaled z ∷ rest) points) (sym (to_z-of_z fits)) here)
