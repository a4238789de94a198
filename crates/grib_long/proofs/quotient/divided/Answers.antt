use Rattle.std.proofs.Common.{◌≡◌, ℕ, ◌+◌, ◌*◌, ◌/◌, ◌%◌, ◌^◌, take, get_or, ap, sym, ◌∙◌, arith, rules}
use Rattle.std.proofs.lemmas.Nat.{shl_whole, mod_below}
use Rattle.grib_long.specs.Digits.{big}
use Rattle.grib_long.proofs.Digits.{big_push, big_more, quotient_more}
use Rattle.grib_long.proofs.quotient.divided.Goals as goal

pub loop-digit-preserved : goal.loop-digit-preserved
loop-digit-preserved c =
    let i : ℕ = c.loop-digit.digit-index in
    let digits = c.args.digits.now in
    let q = c.loop-digit.quotient.items in
    let rest : ℕ = c.loop-digit.rest in
    let step : ℕ = c.from-step.result in
    let part : ℕ = rest * 2 ^ 32 % 2 ^ 64 + c.from.result in
    let same : step ≡ c.args.divisor = c.from-step.ensures in
    let whole : rest * 2 ^ 32 % 2 ^ 64 ≡ rest * 2 ^ 32 = shl_whole rest 32 32 64 (omega (arith, c.loop-digit.invariant.below, c.ranges.divisor.fits)) (omega arith) in
    let digit : c.from.result ≡ get_or digits i 0 = search rules in
    let is : big (take i digits) ≡ big q * step + rest = c.loop-digit.invariant.is ∙ ap (λ k. big q * k + rest) (sym same) in
    let pushed : big c.push.new.self.items ≡ big q * 2 ^ 32 + part / step = ap big c.in_ok-push.ensures.items ∙ big_push q (part / step) in
    record {
      is = big_more digits i 0 c.loop-digit-test.true
          ∙ quotient_more (big (take i digits)) (big q) step rest (get_or digits i 0) part is (omega (arith, whole, digit))
          ∙ ap (λ k. k * step + part % step) (sym pushed) ∙ ap (λ k. big c.push.new.self.items * k + part % step) same;
      below = omega (arith, same, mod_below part step (omega (arith, same, c.requires)));
      long = search rules;
    }
