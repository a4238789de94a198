use Rattle.std.proofs.Common.{FitsSigned, to_z-of_z, sym, ap, ◌∙◌, rules}
use Rattle.std.specs.Int.{w64}
use Rattle.std.proofs.lemmas.Result.{IfOk-weaker}
use Rattle.grib_packing.specs.declared.column.Point.{Point}
use Rattle.grib_packing.specs.declared.column.Point.TheVariants.{Scaled}
use Rattle.grib_same.specs.Sameness.{is_same_point}
use Rattle.grib_same.specs.Scales.{meant_by}
use Rattle.grib_same.proofs.Decisions.{value_alone}
use Rattle.grib_same.proofs.slow.is_same_point.Goals as goal

pub returns-in-Scaled-Scaled : goal.returns-in-Scaled-Scaled
returns-in-Scaled-Scaled c =
    let l = c.args.left.now in
    let r = c.args.right.now in
    let y = c.in-Scaled-Scaled.y in
    let x_fits : FitsSigned w64 c.in-Scaled-Scaled.x = search rules in
    let y_fits : FitsSigned w64 c.in-Scaled-Scaled.y = search rules in
    let ensures = rw (to_z-of_z x_fits, to_z-of_z y_fits) at c.is_same_value.ensures in
    IfOk-weaker c.is_same_value.result _ _ (λ same is. is
    ∙ ap (λ (p : Point). is_same_point (meant_by l p) (meant_by r (Scaled y))) (sym c.in-Scaled-Scaled.is-0)
    ∙ ap (λ (p : Point). is_same_point (meant_by l c.args.left_point.now) (meant_by r p)) (sym c.in-Scaled-Scaled.is-1)) ensures

pub returns-in_default : goal.returns-in_default
returns-in_default c =
    value_alone c.args.left.now c.args.right.now c.in_default.field-0-0 c.args.right_point.now c.in_default.not-Scaled-1
    ∙ ap (λ (p : Point). is_same_point (meant_by c.args.left.now p) (meant_by c.args.right.now c.args.right_point.now)) (sym c.in_default.is-0)
