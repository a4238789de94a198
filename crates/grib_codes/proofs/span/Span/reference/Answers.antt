use Rattle.std.proofs.Common.{◌-◌, refl, sym, ◌∙◌, ap, arith}
use Rattle.std.proofs.lemmas.Bool.{not-true, not-false}
use Rattle.std.proofs.lemmas.Nat.{one_shl}
use Rattle.grib_codes.proofs.Spans.{reference_of-by}
use Rattle.grib_codes.proofs.span.Span.reference.Goals as goal

pub returns-then-self : goal.returns-then-self
returns-then-self c run span =
    let s = span in
    let some = sym s.present ∙ c.if-self.true in
    s.least ∙ sym (reference_of-by c.args.bits run ∙ rw some refl)

pub returns-then-not-self : goal.returns-then-not-self
returns-then-not-self c run span =
    let s = span in
    let none = sym s.present ∙ c.if-self.false in
    let other = sym s.secondary ∙ not-true c.args.self.secondary c.if-not-self.true in
    ap (λ n. n - 1) (one_shl c.args.bits 64 (omega arith)) ∙ sym (reference_of-by c.args.bits run ∙ rw (none, other) refl)

pub returns-then-not-self-2 : goal.returns-then-not-self-2
returns-then-not-self-2 c run span =
    let s = span in
    let none = sym s.present ∙ c.if-self.false in
    let other = sym s.secondary ∙ not-false c.args.self.secondary c.if-not-self.false in
    let one = sym s.primary ∙ not-true c.args.self.primary c.if-not-self-2.true in
    c.saturating_sub.ensures ∙ ap (λ n. n - 2) (one_shl c.args.bits 64 (omega arith)) ∙ sym (reference_of-by c.args.bits run ∙ rw (none, other, one) refl)

pub returns-else-not-self-2 : goal.returns-else-not-self-2
returns-else-not-self-2 c run span =
    let s = span in
    let none = sym s.present ∙ c.if-self.false in
    let other = sym s.secondary ∙ not-false c.args.self.secondary c.if-not-self.false in
    let one = sym s.primary ∙ not-false c.args.self.primary c.if-not-self-2.false in
    sym (reference_of-by c.args.bits run ∙ rw (none, other, one) refl)
