use Rattle.std.proofs.Common.{◌≡◌, ◌^◌, ◌<◌, ◌++◌, nat_abs, FitsSigned, to_z, of_z, to_z-of_z, ap, ◌∙◌, arith}
use Rattle.std.specs.Int.{w64}
use Rattle.std.proofs.lemmas.Int.{ints}
use Rattle.grib_decimal.specs.Decimal.{Scale, decimal_text, value_at}
use Rattle.grib_placed.proofs.Plain.{whole_is}
use Rattle.grib_placed.proofs.whole.WholeText.append.Goals as goal

pub returns-in-Ok : goal.returns-in-Ok
returns-in-Ok c =
    let number : to_z w64 (of_z w64 c.args.number) ≡ c.args.number = to_z-of_z c.ranges.number in
    let small : nat_abs c.args.number < 2 ^ 64 = omega (arith, ints) in
    let appended = rw number at c.in-Ok.ensures.appended in
    appended ∙ ap (λ (k : Scale). c.args.text.now.items ++ decimal_text (value_at k c.args.number) k.places) c.args.self.now.scale_is
    ∙ ap (λ xs. c.args.text.now.items ++ xs) (whole_is c.args.number small)
