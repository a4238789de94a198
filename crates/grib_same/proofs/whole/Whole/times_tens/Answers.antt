use Rattle.std.proofs.Common.{◌≡◌, ℕ, ◌-◌, ◌^◌, ◌≤◌, ℤ, pos, ◌+ℤ◌, ◌*ℤ◌, ap, ◌∙◌, arith, rules}
use Rattle.std.proofs.lemmas.Int.{ints}
use Rattle.grib_same.specs.Wholes.{value}
use Rattle.grib_same.proofs.Wholes.{tens_more}
use Rattle.grib_same.proofs.whole.Whole.times_tens.Goals as goal

no_more : (z : ℤ) → z +ℤ pos 0 ≡ z
no_more z = omega (arith, ints)

pub loop-left-preserved : goal.loop-left-preserved
loop-left-preserved c =
    let step : ℕ = c.min-step.result in
    let part : step ≤ c.loop-left.left = omega (arith, c.min-step.ensures) in
    let power : c.pow.result ≡ 10 ^ step = search rules in
    let before = value c.args.self *ℤ pos (10 ^ (c.args.tens - c.loop-left.left)) in
    record {
      is = c.in_ok-product.ensures ∙ no_more (value c.loop-left.product *ℤ pos c.pow.result) ∙ ap (λ n. n *ℤ pos c.pow.result) c.loop-left.invariant.is
          ∙ ap (λ n. before *ℤ pos n) power ∙ tens_more (value c.args.self) c.args.tens c.loop-left.left step c.loop-left.invariant.within part;
      within = omega (arith, c.loop-left.invariant.within);
    }
