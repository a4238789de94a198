use Rattle.std.proofs.Common.{◌≡◌, ℕ, ◌+◌, ◌-◌, length, ap, ◌∙◌, arith, length-append}
use Rattle.grib_select.specs.Single.{field_part, first_parts}
use Rattle.grib_select.proofs.Steps.{parts_more}
use Rattle.grib_select.proofs.cutting.single_length.Goals as goal

pub loop-number-preserved : goal.loop-number-preserved
loop-number-preserved c =
    let m = c.args.message.now in
    let i = c.args.field in
    let n = c.loop-number.number in
    let low = c.loop-number.auto.number in
    let back : n + 1 - 1 ≡ n - 1 + 1 = omega (arith, low) in
    let more : length (first_parts m i (n + 1 - 1)) ≡ length (first_parts m i (n - 1)) + length (field_part m i n) =
    ap (λ (k : ℕ). length (first_parts m i k)) back
    ∙ ap length (parts_more m i (n - 1) n (omega (arith, low)))
    ∙ length-append (first_parts m i (n - 1)) (field_part m i n) in
    let part = ap length c.field_part.ensures.octets in
    record {
      sum = omega (arith, c.loop-number.invariant.sum);
      bound = omega (arith, c.loop-number.invariant.bound, c.field_part.ensures.short, low);
    }

pub returns : goal.returns
returns c =
    let m = c.args.message.now in
    let i = c.args.field in
    let n = c.loop-number.number in
    let last : n - 1 ≡ 7 = omega (arith, c.loop-number-test.false, c.loop-number.auto.number-end (omega arith)) in
    let all : length (first_parts m i (n - 1)) ≡ length (first_parts m i 7) = ap (λ (k : ℕ). length (first_parts m i k)) last in
    omega (arith, c.loop-number.invariant.sum)
