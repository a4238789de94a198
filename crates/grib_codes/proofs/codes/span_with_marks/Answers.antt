use Rattle.std.proofs.Common.{◌≡◌, [], ◌∙◌, subst, arith}
use Rattle.grib_codes.specs.Span.{IsSpan}
use Rattle.grib_codes.proofs.Spans.{small_run}
use Rattle.grib_codes.specs.Words.{codes_of}
use Rattle.grib_codes.proofs.Marked.{span_of_marks, span_around_mark}
use Rattle.grib_codes.proofs.codes.span_with_marks.Goals as goal
use Rattle.grib_codes.proofs.codes.span_with_marks.Goals.{After-with, After-span_around}

marks : (c : After-with) → IsSpan c.with.result (codes_of c.args.reserved c.args.words.now)
marks c =
    let one : 1 ≡ c.args.reserved = omega (arith, c.if-reserved-ne1.false) in
    subst (λ k. IsSpan c.with.result (codes_of k c.args.words.now)) one
    (span_of_marks c.with.result c.args.words.now (omega (arith, c.requires.greatest, c.if-most-lt4294967295.false, c.ranges.most.fits)) (omega (arith, c.requires.least, c.if-least-eq4294967295.true))
    (c.with.ensures.span [] c.none.ensures))

around : (c : After-span_around) → IsSpan c.span_around.result (codes_of c.args.reserved c.args.words.now)
around c =
    let one : 1 ≡ c.args.reserved = omega (arith, c.if-reserved-ne1.false) in
    subst (λ k. IsSpan c.span_around.result (codes_of k c.args.words.now)) one
    (span_around_mark c.span_around.result c.args.words.now c.from.result c.from-2.result (omega (arith, c.requires.greatest, c.if-most-lt4294967295.false, c.ranges.most.fits))
    (c.from.ensures ∙ c.requires.least) (omega (arith, c.from.ensures, c.if-least-eq4294967295.false, c.ranges.least.fits)) (c.from-2.ensures ∙ c.greatest_number.ensures) c.span_around.ensures.span)

pub returns-then-least-eq4294967295-clause-span : goal.returns-then-least-eq4294967295-clause-span
returns-then-least-eq4294967295-clause-span c = marks (goal.at.returns-then-least-eq4294967295-clause-span c).After-with

pub returns-then-least-eq4294967295-clause-small : goal.returns-then-least-eq4294967295-clause-small
returns-then-least-eq4294967295-clause-small c k few each =
    let span = marks (goal.at.returns-then-least-eq4294967295-clause-small c).After-with in
    omega (arith, span.greatest, small_run k (codes_of c.args.reserved c.args.words.now) few each)

pub returns-clause-span : goal.returns-clause-span
returns-clause-span c = around (goal.at.returns-clause-span c).After-span_around

pub returns-clause-small : goal.returns-clause-small
returns-clause-small c k few each =
    let span = around (goal.at.returns-clause-small c).After-span_around in
    omega (arith, span.greatest, small_run k (codes_of c.args.reserved c.args.words.now) few each)
