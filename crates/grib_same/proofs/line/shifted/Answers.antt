use Rattle.std.proofs.Common.{◌≡◌, ◌*◌, ◌%◌, ◌^◌, ◌*ℤ◌, FitsSigned, to_z, of_z, to_z-of_z, ap, ◌∙◌, arith, rules}
use Rattle.std.specs.Int.{w128}
use Rattle.grib_same.proofs.Lines.{bit_128}
use Rattle.grib_same.proofs.line.shifted.Goals as goal

pub returns-then-unsigned_abs-clause-value : goal.returns-then-unsigned_abs-clause-value
returns-then-unsigned_abs-clause-value c =
    let fits : FitsSigned w128 c.in_ok-product.product = search rules in
    let number : to_z w128 (of_z w128 c.args.number) ≡ c.args.number = to_z-of_z c.ranges.number in
    let power = bit_128 c.args.twos (omega arith) in
    rw (to_z-of_z fits) (c.in_ok-product.ensures.1 ∙ ap (λ n. n *ℤ to_z w128 (1 * 2 ^ c.args.twos % 2 ^ 128)) number ∙ ap (λ n. c.args.number *ℤ n) power)
