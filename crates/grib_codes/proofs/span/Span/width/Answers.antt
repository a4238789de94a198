use Rattle.std.proofs.Common.{◌≡◌, ◌+◌, ◌-◌, sym, ◌∙◌, ap, arith}
use Rattle.std.proofs.lemmas.Bool.{not-true, not-false}
use Rattle.grib_packing.specs.Groupings.{digits, present_codes, smallest, greatest}
use Rattle.grib_codes.proofs.Spans.{width_of-marks, width_of-constant, width_of-numbers}
use Rattle.grib_codes.proofs.span.Span.width.Goals as goal

pub returns-then-not-self-clause-is : goal.returns-then-not-self-clause-is
returns-then-not-self-clause-is c run span =
    let s = span in
    c.width_of_marks.ensures ∙ rw (s.primary, s.secondary) (sym (width_of-marks c.args.reserved run (sym s.present ∙ not-true c.args.self.present c.if-not-self.true)))

pub returns-then-is_constant-clause-is : goal.returns-then-is_constant-clause-is
returns-then-is_constant-clause-is c run span =
    let s = span in
    let same = sym c.is_constant.ensures ∙ c.if-is_constant.true in
    sym (width_of-constant c.args.reserved run (sym s.present ∙ not-false c.args.self.present c.if-not-self.false) (rw (s.primary, s.secondary, s.greatest, s.least) at same))

pub returns-clause-is : goal.returns-clause-is
returns-clause-is c run span =
    let s = span in
    let other = sym c.is_constant.ensures ∙ c.if-is_constant.false in
    let is = width_of-numbers c.args.reserved run (sym s.present ∙ not-false c.args.self.present c.if-not-self.false) (rw (s.primary, s.secondary, s.greatest, s.least) at other) in
    let codes = present_codes run in
    let e : c.args.self.greatest - c.args.self.least + c.from.result ≡ greatest codes - smallest codes + c.args.reserved =
    omega (arith, s.greatest, s.least, c.from.ensures) in
    c.bit_length.ensures.is ∙ (ap digits e ∙ sym is)
