use Rattle.std.proofs.Common.{◌<ℤ◌, ◌≡◌, ◌≢◌, ◌^◌, pos, to_z-of_z, FitsSigned, nat_abs, to_z, of_z, ap, ◌∙◌, arith, rules}
use Rattle.std.proofs.lemmas.Int.{ints}
use Rattle.std.specs.Int.{w64, w128}
use Rattle.grib_decimal.proofs.Powers.{many_bits, known_product}
use Rattle.grib_decimal.proofs.power.shifted.Goals as goal

pub returns-then-shift-gt126 : goal.returns-then-shift-gt126
returns-then-shift-gt126 c =
    let many : pos 126 <ℤ c.args.shift = omega (arith, ints) in
    let some : c.args.number ≢ pos 0 = λ e. omega (arith, ints) in
    many_bits c.args.number c.args.shift some many

pub returns : goal.returns
returns c =
    let wide : FitsSigned w128 c.from.result = search rules in
    let wide' : FitsSigned w128 c.bit.result = search rules in
    let number : to_z w128 (of_z w128 c.from.result) ≡ c.args.number = to_z-of_z wide ∙ c.from.ensures ∙ to_z-of_z c.ranges.number in
    let shift : to_z w64 (of_z w64 c.args.shift) ≡ c.args.shift = to_z-of_z c.ranges.shift in
    let size : to_z w128 (of_z w128 c.bit.result) ≡ pos (2 ^ nat_abs c.args.shift) = to_z-of_z wide' ∙ c.bit.ensures ∙ ap (λ z. pos (2 ^ nat_abs z)) shift in
    known_product c.checked_mul.result _ _ c.args.number (pos (2 ^ nat_abs c.args.shift)) number size c.checked_mul.ensures
