use Rattle.std.proofs.Common.{◌≡◌, ℕ, ◌+◌, ◌-◌, ◌*◌, ◌^◌, ◌≤◌, inl, inr, ap, sym, subst, ◌∙◌, arith, rules}
use Rattle.std.proofs.lemmas.Bool.{false≢true}
use Rattle.std.proofs.lemmas.Nat.{pow-add}
use Rattle.std.proofs.Math.Nat.{one-le-pow}
use Rattle.grib_long.specs.Digits.{big, value}
use Rattle.grib_long.specs.Floor.{IsFloor}
use Rattle.grib_long.proofs.Floors.{floor_twice}
use Rattle.grib_long.proofs.long.Long.by_tens.Goals as goal
use Rattle.grib_long.proofs.long.Long.by_tens.Goals.{then-more, else-more}

pub divided-requires : goal.divided-requires
divided-requires c = omega (arith, c.pow.ensures, one-le-pow c.min-step.result 10 (omega arith))

-- so many tens, and these too
tens_more : (all left step : ℕ) → left ≤ all → step ≤ left → 10 ^ (all - left) * 10 ^ step ≡ 10 ^ (all - (left - step))
tens_more all left step within part = sym (pow-add 10 (all - left) step) ∙ ap (λ k. 10 ^ k) {x = all - left + step} {y = all - (left - step)} (omega arith)

pub loop-left-preserved : goal.loop-left-preserved
loop-left-preserved c =
    let step : ℕ = c.min-step.result in
    let before = c.loop-left.whole in
    let after = c.in_ok-quotient.quotient in
    let done : ℕ = c.args.tens - c.loop-left.left in
    let part : step ≤ c.loop-left.left = omega (arith, c.min-step.ensures) in
    let power : 10 ^ done * c.pow.result ≡ 10 ^ (c.args.tens - (c.loop-left.left - step)) =
    ap (λ p. 10 ^ done * p) c.pow.ensures ∙ tens_more c.args.tens c.loop-left.left step c.loop-left.invariant.within part in
    let two : IsFloor (value before) (value after.whole) c.pow.result after.more =
    subst (λ digits. IsFloor (big digits) (value after.whole) c.pow.result after.more) c.as_slice.ensures.value c.in_ok-quotient.ensures.floor in
    let both = floor_twice (value c.args.self) (value before) (value after.whole) (10 ^ done) c.pow.result c.loop-left.more after.more c.if-more.more
    (omega (arith, one-le-pow done 10 (omega arith))) c.loop-left.invariant.floor two
    (λ e. elim c.if-more.branch [
      | then-more w ↦ absurd (false≢true (sym e ∙ w.more-is ∙ w.if-more.true))
      | else-more w ↦ (w.if-more.false, sym w.more-is ∙ e)
    ])
    (λ e. elim c.if-more.branch [
      | then-more w ↦ inl w.if-more.true
      | else-more w ↦ inr (sym w.more-is ∙ e)
    ]) in
    record {
      floor = subst (λ p. IsFloor (value c.args.self) (value after.whole) p c.if-more.more) power both;
      within = omega (arith, c.loop-left.invariant.within);
      long = search rules;
    }
