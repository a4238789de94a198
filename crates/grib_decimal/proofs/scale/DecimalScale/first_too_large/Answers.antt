use Rattle.std.proofs.Common.{◌≡◌, false, ℤ, FitsSigned, to_z-of_z, sym, ap, ◌∙◌, rules}
use Rattle.std.specs.Int.{w64}
use Rattle.grib_decimal.specs.Decimal.{is_too_large, value_at}
use Rattle.grib_decimal.proofs.Ranges.{all_fit, none_fits}
use Rattle.grib_decimal.proofs.scale.DecimalScale.first_too_large.Goals as goal
use Rattle.grib_decimal.proofs.scale.DecimalScale.first_too_large.Goals.{then-is_too_large, else-is_too_large}

pub returns-in_err-bounds : goal.returns-in_err-bounds
returns-in_err-bounds c =
    c.from_residual.ensures ∙ sym (none_fits c.args.self.now c.args.column.now.points c.in_err-bounds.ensures.none)

pub returns-else-is_too_large-2 : goal.returns-else-is_too_large-2
returns-else-is_too_large-2 c =
    let s = c.args.self.now in
    let m = c.in_ok-bounds.bounds in
    let least_fits : FitsSigned w64 m.least = search rules in
    let greatest_fits : FitsSigned w64 m.greatest = search rules in
    let test = λ (x : ℤ). is_too_large (value_at s x) s.places in
    elim c.if-is_too_large.branch [
      | then-is_too_large w ↦ let value = w.value-is in let fact = c.if-is_too_large-2.false in absurd (cc)
      | else-is_too_large w ↦
          let least : test m.least ≡ false = sym (c.is_too_large.ensures ∙ ap test (to_z-of_z least_fits)) ∙ w.if-is_too_large.false in
          let is = w.is_too_large-else-is_too_large.ensures ∙ ap test (to_z-of_z greatest_fits) in
          let greatest : test m.greatest ≡ false = let value = w.value-is in let fact = c.if-is_too_large-2.false in cc in
          sym (all_fit s c.args.column.now.points m c.in_ok-bounds.ensures.some least greatest)
    ]
