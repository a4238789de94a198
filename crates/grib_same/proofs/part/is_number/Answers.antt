use Rattle.std.proofs.Common.{◌≡◌, ◌<◌, ◌^◌, true, false, get_or, Fits, FitsSigned, w32, to_z, to_z-of_z, sym, arith, rules}
use Rattle.std.specs.Int.{w64}
use Rattle.grib_same.proofs.Wholes.{digit_same, digit_differs}
use Rattle.grib_same.proofs.part.is_number.Goals as goal

pub returns-then-part-digit : goal.returns-then-part-digit
returns-then-part-digit c =
    let ds = c.args.digits.now in
    let i = c.loop-digit.digit-index in
    let invariant = rw (to_z-of_z c.ranges.top, to_z-of_z c.ranges.number) at c.loop-digit.invariant in
    let fits : Fits w32 c.of-part.result.digit = search rules in
    let small : get_or ds i 0 < 2 ^ 32 = omega (arith, c.type_inv.digits i) in
    let small' : c.of-part.result.digit < 2 ^ 32 = omega (arith, fits) in (
      λ e. absurd (let f : false ≡ true = e in cc),
      λ e. absurd (digit_differs ds c.args.top (to_z w64 c.loop-digit.left-bits) c.of-part.result.above i c.of-part.result.digit c.loop-digit-test.true small small' c.of-part.ensures (λ same. c.if-part-digit.true (sym same)) (invariant.0 e)),
    )

pub loop-digit-preserved : goal.loop-digit-preserved
loop-digit-preserved c =
    let ds = c.args.digits.now in
    let i = c.loop-digit.digit-index in
    let invariant = rw (to_z-of_z c.ranges.top, to_z-of_z c.ranges.number) at c.loop-digit.invariant in
    let fits : Fits w32 c.of-part.result.digit = search rules in
    let small : get_or ds i 0 < 2 ^ 32 = omega (arith, c.type_inv.digits i) in
    let small' : c.of-part.result.digit < 2 ^ 32 = omega (arith, fits) in
    let above : FitsSigned w64 c.of-part.result.above = search rules in
    let step = digit_same ds c.args.top (to_z w64 c.loop-digit.left-bits) c.of-part.result.above i c.of-part.result.digit c.loop-digit-test.true small small' c.of-part.ensures (sym c.if-part-digit.false) in
    rw (to_z-of_z c.ranges.top, to_z-of_z c.ranges.number, to_z-of_z above) (λ e. step.0 (invariant.0 e), λ e. invariant.1 (step.1 e))
