use Rattle.std.proofs.Common.{◌≡◌, ◌++◌, length, to_z-of_z, ap, ◌∙◌, arith}
use Rattle.grib_decimal.specs.Text as text
use Rattle.grib_decimal.specs.Decimal.{Scale, decimal_text, value_at}
use Rattle.grib_decimal.proofs.Fields.{text_is}
use Rattle.grib_decimal.proofs.scale.DecimalScale.append.Goals as goal

pub returns-in-Ok-clause-appended : goal.returns-in-Ok-clause-appended
returns-in-Ok-clause-appended c =
    let r = c.in-Some.rounded in
    let s = c.args.self.now in
    let places : c.self.inside.places ≡ s.places = ap (λ (z : Scale). z.places) c.self.view_is in
    let rounded = rw (to_z-of_z c.ranges.x) at c.in-Some.ensures in
    let is : text.decimal_text r.negative r.number c.self.inside.places ≡ decimal_text (value_at s c.args.x) s.places = ap (λ n. text.decimal_text r.negative r.number n) places ∙ text_is (value_at s c.args.x) s.places r rounded.1 in
    c.in-Ok.ensures.appended ∙ ap (λ xs. c.args.text.now.items ++ xs) is

pub returns-in-Err-clause-no_room : goal.returns-in-Err-clause-no_room
returns-in-Err-clause-no_room c _ =
    let r = c.in-Some.rounded in
    let s = c.args.self.now in
    let places : c.self.inside.places ≡ s.places = ap (λ (z : Scale). z.places) c.self.view_is in
    let rounded = rw (to_z-of_z c.ranges.x) at c.in-Some.ensures in
    let is : text.decimal_text r.negative r.number c.self.inside.places ≡ decimal_text (value_at s c.args.x) s.places = ap (λ n. text.decimal_text r.negative r.number n) places ∙ text_is (value_at s c.args.x) s.places r rounded.1 in
    omega (arith, c.in-Err.ensures.no_room, ap length is)
