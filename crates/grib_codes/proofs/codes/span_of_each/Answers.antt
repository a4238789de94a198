use Rattle.std.proofs.Common.{ℕ, List, ◌∷◌, ◌≤◌, take, get_or, length, sym, subst, arith}
use Rattle.std.proofs.lemmas.List.{take_all, map_more}
use Rattle.grib_base.specs.declared.code.Code.{Code}
use Rattle.grib_codes.specs.Span.{IsSpan}
use Rattle.grib_codes.proofs.Spans.{small_run, span-behind}
use Rattle.grib_codes.specs.Words.{code_of, codes_of}
use Rattle.grib_codes.proofs.codes.span_of_each.Goals as goal

pub loop-word-preserved : goal.loop-word-preserved
loop-word-preserved c =
    let reserved = c.args.reserved in
    let words = c.args.words.now in
    let i = c.loop-word.word-index in
    let before = codes_of reserved (take i words) in
    let code = code_of reserved (get_or words i 0) in
    let here = subst (λ (x : Code). IsSpan c.with-span.result (x ∷ before)) c.code_in.ensures (c.with-span.ensures.span before c.loop-word.invariant.span) in
    record {
      span = subst (IsSpan c.with-span.result) (sym (map_more (code_of reserved) words i 0 c.loop-word-test.true)) (span-behind c.with-span.result code before here);
      ordered = c.with-span.ensures.ordered c.loop-word.invariant.ordered;
    }

pub returns-clause-small : goal.returns-clause-small
returns-clause-small c k few each =
    let reserved = c.args.reserved in
    let words = c.args.words.now in
    let past : length words ≤ c.loop-word.word-index = c.loop-word-test.false in
    let span : IsSpan c.loop-word.span (codes_of reserved words) = subst (λ (ws : List ℕ). IsSpan c.loop-word.span (codes_of reserved ws)) (take_all c.loop-word.word-index words past) c.loop-word.invariant.span in
    omega (arith, span.greatest, small_run k (codes_of reserved words) few each)
