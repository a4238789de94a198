use Rattle.std.proofs.Common.{◌∙◌, arith}
use Rattle.grib_codes.specs.Span.{IsSpan}
use Rattle.grib_codes.proofs.Spans.{small_run}
use Rattle.grib_codes.specs.Words.{codes_of}
use Rattle.grib_codes.proofs.Ends.{span_between_ends}
use Rattle.grib_codes.proofs.codes.span_of_words.Goals as goal

pub returns-clause-span : goal.returns-clause-span
returns-clause-span c =
    span_between_ends c.span_between.result c.args.reserved c.from.result c.from-2.result 4294967295 c.args.words.now (omega arith) (omega arith) (omega arith)
    (c.from.ensures ∙ c.ends-least.ensures.least) (c.from-2.ensures ∙ c.ends-least.ensures.greatest) c.span_between.ensures.span

pub returns-clause-small : goal.returns-clause-small
returns-clause-small c k few each =
    let run = codes_of c.args.reserved c.args.words.now in
    let span : IsSpan c.span_between.result run =
    span_between_ends c.span_between.result c.args.reserved c.from.result c.from-2.result 4294967295 c.args.words.now (omega arith) (omega arith) (omega arith)
    (c.from.ensures ∙ c.ends-least.ensures.least) (c.from-2.ensures ∙ c.ends-least.ensures.greatest) c.span_between.ensures.span in
    omega (arith, span.greatest, small_run k run few each)
