use Rattle.std.proofs.Common.{◌+◌, ap, ◌∙◌, ℕ, inl, inr, arith}
use Rattle.grib_complex_reading.proofs.Uniform.{past_last, past_within}
use Rattle.grib_complex_reading.proofs.alike.first_past.Goals as goal
use Rattle.grib_complex_reading.proofs.alike.first_past.Goals.{else-each-gt0-via-then-each-gt0+else-values-each, else-each-gt0-via-else-each-gt0}

pub returns-then-values-each : goal.returns-then-values-each
returns-then-values-each c = λ last.
    ap (λ (n : ℕ). n + 1) c.from.ensures ∙ past_within c.args.values c.args.each last c.args.before c.if-each-gt0.true c.if-values-each.true

pub returns : goal.returns
returns c = λ last.
    ap (λ (n : ℕ). n + 1) c.from-2.ensures ∙ past_last c.args.values c.args.each last c.args.before (elim c.else-each-gt0.branch [
      | else-each-gt0-via-then-each-gt0+else-values-each w ↦ inr (omega (arith, w.if-values-each.false))
      | else-each-gt0-via-else-each-gt0 w ↦ inl (omega (arith, w.if-each-gt0.false))
    ])
