use Rattle.std.proofs.Common.{◌≡◌, ℕ, ◌+◌, ◌-◌, ◌*◌, ◌^◌, ◌≤◌, ap, sym, ◌∙◌, arith, rules}
use Rattle.std.proofs.lemmas.Nat.{pow-add}
use Rattle.std.proofs.Math.Nat.{mul_assoc}
use Rattle.grib_long.specs.Digits.{little}
use Rattle.grib_long.proofs.product.by_tens.Goals as goal

-- so many tens, and these too
tens_more : (whole all left step : ℕ) → left ≤ all → step ≤ left → whole * 10 ^ (all - left) * 10 ^ step ≡ whole * 10 ^ (all - (left - step))
tens_more whole all left step within part =
    mul_assoc whole (10 ^ (all - left)) (10 ^ step)
    ∙ ap (λ p. whole * p) (sym (pow-add 10 (all - left) step) ∙ ap (λ k. 10 ^ k) {x = all - left + step} {y = all - (left - step)} (omega arith))

pub loop-left-preserved : goal.loop-left-preserved
loop-left-preserved c =
    let step : ℕ = c.min-step.result in
    let part : step ≤ c.loop-left.left = omega (arith, c.min-step.ensures) in
    record {
      is = c.in_ok-product.ensures.value ∙ ap (λ k. little k * c.pow.result) c.as_slice.ensures.value ∙ ap (λ k. k * c.pow.result) c.loop-left.invariant.is
          ∙ ap (λ p. little c.args.digits.items * 10 ^ (c.args.tens - c.loop-left.left) * p) (search rules)
          ∙ tens_more (little c.args.digits.items) c.args.tens c.loop-left.left step c.loop-left.invariant.within part;
      within = omega (arith, c.loop-left.invariant.within);
      long = search rules;
    }
