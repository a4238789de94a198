use Rattle.std.proofs.Common.{◌≡◌, ◌-◌, ◌+◌, ◌∷◌, ℕ, max, nat_abs, ap, ◌∙◌, sym, refl, arith, to_z-of_z}
use Rattle.grib_packing.specs.Misfits.{is_outside, is_scaled_outside}
use Rattle.grib_packing.specs.declared.column.Point.TheVariants.{Scaled}
use Rattle.grib_simple.specs.Survey.{place_after}
use Rattle.grib_simple.proofs.Seen.{place-here, place-later, number_more}
use Rattle.grib_simple.proofs.survey.Survey.with_number.Goals as goal
use Rattle.grib_simple.proofs.survey.Survey.with_number.Goals.{then-is_too_wide, else-is_too_wide}

pub returns-clause-survey : goal.returns-clause-survey
returns-clause-survey c rest points h =
    let place = c.args.place in
    let is_too_wide = is_scaled_outside c.args.most in
    let x = c.args.x in
    let before = c.args.self in
    let back = to_z-of_z c.ranges.x in
    let next : place ≡ place - 1 + 1 = omega arith in
    let tested : is_too_wide (Scaled x) ≡ c.is_too_wide.result = ap (is_outside c.args.most) (sym back) ∙ sym c.is_too_wide.ensures in
    let wide : place_after c.if-is_too_wide.too_wide place is_too_wide rest ≡ place_after before.too_wide (place - 1) is_too_wide (Scaled x ∷ rest) =
    elim c.if-is_too_wide.branch [
      | then-is_too_wide w ↦
          place-here is_too_wide (Scaled x) rest before.too_wide (place - 1) c.if-is_too_wide.too_wide place next (tested ∙ w.if-is_too_wide.true)
          (λ some. w.too_wide-is ∙ w.found-too_wide.ensures.before some) (λ none. w.too_wide-is ∙ w.found-too_wide.ensures.here none)
      | else-is_too_wide w ↦
          place-later is_too_wide (Scaled x) rest before.too_wide (place - 1) c.if-is_too_wide.too_wide place next (tested ∙ w.if-is_too_wide.false) w.too_wide-is
    ] in
    let greatest_is : c.max.result ≡ max before.greatest (nat_abs x) =
    c.max.ensures ∙ ap (λ (n : ℕ). max before.greatest n) (c.unsigned_abs.ensures.value ∙ ap nat_abs back) in
    number_more c.args.most before _ (place - 1) place x rest points next refl refl refl refl greatest_is wide h
