use Rattle.std.proofs.Common.{◌≡◌, ℕ, List, ◌+◌, get_or, drop, pos, ◌+ℤ◌, ◌*ℤ◌, FitsSigned, to_z, of_z, to_z-of_z, sym, ap, ◌∙◌, rules}
use Rattle.std.specs.Int.{w64}
use Rattle.grib_same.specs.Wholes.{number_of}
use Rattle.grib_same.proofs.Wholes.{multiplied_more, multiplied_last}
use Rattle.grib_same.proofs.digits.multiplied.Goals as goal

pub loop-digit-preserved : goal.loop-digit-preserved
loop-digit-preserved c =
    let ds = c.args.digits.now in
    let i = c.loop-digit.digit-index in
    let top = to_z w64 (of_z w64 c.args.top) in
    let above = c.of-part.result.above in
    let from : FitsSigned w64 c.from.result = search rules in
    let fits : FitsSigned w64 c.of-part.result.above = search rules in
    let digit : to_z w64 (of_z w64 c.from.result) ≡ pos (get_or ds i 0) = to_z-of_z from ∙ c.from.ensures in
    let part = rw digit at c.of-part.ensures in
    rw (to_z-of_z fits) (ap (λ (l : List ℕ). number_of l ((number_of (drop (i + 1) ds) top *ℤ pos c.args.factor) +ℤ above)) c.in_ok-push.ensures.items
    ∙ sym (multiplied_more c.loop-digit.product.items ds top (to_z w64 c.loop-digit.carry-bits) above i c.args.factor c.of-part.result.digit c.loop-digit-test.true part)
    ∙ c.loop-digit.invariant)

pub returns : goal.returns
returns c =
    let ds = c.args.digits.now in
    let i = c.loop-digit.digit-index in
    let above = c.of-last.result.above in
    let fits : FitsSigned w64 c.of-last.result.above = search rules in
    let invariant = rw (to_z-of_z c.ranges.top, to_z-of_z c.ranges.number) at c.loop-digit.invariant in
    let part = rw (to_z-of_z c.ranges.top) at c.of-last.ensures in
    rw (to_z-of_z fits) (ap (λ (l : List ℕ). number_of l above) c.in_ok-push-2.ensures.items
    ∙ multiplied_last c.loop-digit.product.items ds c.args.top (to_z w64 c.loop-digit.carry-bits) above i c.args.factor c.of-last.result.digit c.loop-digit-test.false part
    ∙ invariant)
