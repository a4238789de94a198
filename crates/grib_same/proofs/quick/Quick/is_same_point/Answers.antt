use Rattle.std.proofs.Common.{FitsSigned, to_z-of_z, sym, ap, ◌∙◌, rules}
use Rattle.std.specs.Int.{w64, w128}
use Rattle.grib_packing.specs.declared.column.Point.{Point}
use Rattle.grib_packing.specs.declared.column.Point.TheVariants.{Scaled}
use Rattle.grib_same.specs.Sameness.{is_same_point}
use Rattle.grib_same.specs.Scales.{meant_by, value_by}
use Rattle.grib_same.proofs.Decisions.{line_test, value_alone}
use Rattle.grib_same.proofs.quick.Quick.is_same_point.Goals as goal

pub returns-in-Scaled-Scaled : goal.returns-in-Scaled-Scaled
returns-in-Scaled-Scaled c l r is =
    let x = c.in-Scaled-Scaled.x in
    let y = c.in-Scaled-Scaled.y in
    let x_fits : FitsSigned w64 c.in-Scaled-Scaled.x = search rules in
    let y_fits : FitsSigned w64 c.in-Scaled-Scaled.y = search rules in
    let fits : FitsSigned w128 c.at.result = search rules in
    let fits' : FitsSigned w128 c.at-in-Scaled-Scaled.result = search rules in
    let at = rw (to_z-of_z x_fits) at c.at.ensures in
    let at' = rw (to_z-of_z y_fits) at c.at-in-Scaled-Scaled.ensures in
    line_test c.at.result c.at-in-Scaled-Scaled.result (value_by l x) (value_by r y) fits fits' (λ e. (is x y).0 (sym at ∙ e ∙ at'), λ s. at ∙ (is x y).1 s ∙ sym at')
    ∙ ap (λ (p : Point). is_same_point (meant_by l p) (meant_by r (Scaled y))) (sym c.in-Scaled-Scaled.is-0)
    ∙ ap (λ (p : Point). is_same_point (meant_by l c.args.left.now) (meant_by r p)) (sym c.in-Scaled-Scaled.is-1)

pub returns-in_default : goal.returns-in_default
returns-in_default c l r is =
    value_alone l r c.in_default.field-0-0 c.args.right.now c.in_default.not-Scaled-1
    ∙ ap (λ (p : Point). is_same_point (meant_by l p) (meant_by r c.args.right.now)) (sym c.in_default.is-0)
