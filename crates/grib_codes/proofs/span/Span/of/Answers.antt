use Rattle.std.proofs.Common.{◌≡◌, ◌+◌, ◌<◌, ◌≤◌, ℕ, suc, List, ◌∷◌, [], ◌++◌, length, take, get_or, subst, sym, ap, ◌∙◌, arith}
use Rattle.std.proofs.Math.Seq.{take-suc}
use Rattle.std.proofs.lemmas.List.{take_all}
use Rattle.grib_base.specs.declared.code.Code.{Code}
use Rattle.grib_codes.specs.declared.span.Span.{Span}
use Rattle.grib_codes.specs.Span.{IsSpan}
use Rattle.grib_codes.proofs.Spans.{small_run, span-behind}
use Rattle.grib_codes.proofs.span.Span.of.Goals as goal

one_more : (span : Span) (run : List Code) (done : ℕ) (d : Code) → done < length run → IsSpan span (get_or run done d ∷ take done run) → IsSpan span (take (done + 1) run)
one_more span run done d within is =
    let next : suc done ≡ done + 1 = omega arith in
    let whole : take done run ++ get_or run done d ∷ [] ≡ take (done + 1) run = sym (take-suc run done d within) ∙ ap (λ (k : ℕ). take k run) next in
    subst (IsSpan span) whole (span-behind span (get_or run done d) (take done run) is)

all_codes : (span : Span) (run : List Code) (done : ℕ) → length run ≤ done → IsSpan span (take done run) → IsSpan span run
all_codes span run done past is = subst (IsSpan span) (take_all done run past) is

pub loop-done-preserved : goal.loop-done-preserved
loop-done-preserved c =
    let run = c.args.run.now in
    record {
      span = one_more c.with-span.result run c.loop-done.done _ c.loop-done-test.true (c.with-span.ensures.span (take c.loop-done.done run) c.loop-done.invariant.span);
      ordered = c.with-span.ensures.ordered c.loop-done.invariant.ordered;
    }

pub returns-clause-span : goal.returns-clause-span
returns-clause-span c = all_codes c.loop-done.span c.args.run.now c.loop-done.done (omega arith) c.loop-done.invariant.span

pub returns-clause-small : goal.returns-clause-small
returns-clause-small c k few each =
    let run = c.args.run.now in
    let span : IsSpan c.loop-done.span run = all_codes c.loop-done.span run c.loop-done.done (omega arith) c.loop-done.invariant.span in
    omega (arith, span.greatest, small_run k run few each)
