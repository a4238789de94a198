use Rattle.std.proofs.Common.{◌≡◌, ◌∙◌, sym, cond, ◌==◌, ℤ, pos, ◌+ℤ◌, ◌-ℤ◌, ◌*ℤ◌, arith, to_z, of_z, w64}
use Rattle.std.proofs.lemmas.Int.{ints}
use Rattle.grib_complex_reading.proofs.running.number_after.Goals as goal

pub returns-else-order-eq1 : goal.returns-else-order-eq1
returns-else-order-eq1 c =
    let two : ℤ = ((pos c.args.code +ℤ c.args.minimum) +ℤ (pos 2 *ℤ c.args.last)) -ℤ c.args.before in
    let is : to_z w64 (of_z w64 c.after_two.result) ≡ two = omega (arith, ints, c.after_two.ensures) in
    let other : cond (c.args.order == 1) ((pos c.args.code +ℤ c.args.minimum) +ℤ c.args.last) two ≡ two = grind (arith, c.if-order-eq1.false) in
    is ∙ sym other
