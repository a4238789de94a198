use Rattle.std.proofs.Common.{List, [], ◌∷◌, ◌++◌, length, drop, get_or, sym, ap, ◌∙◌, subst, append_assoc, arith}
use Rattle.std.proofs.lemmas.List.{append-nil, length-append}
use Rattle.grib_packing.specs.Groupings.{runs}
use Rattle.grib_groups.specs.declared.measuring.Measure.{Measure}
use Rattle.grib_groups.specs.Encoding.{AreMeasures}
use Rattle.grib_groups.proofs.Measures.{known-more, none_known}
use Rattle.grib_groups.proofs.Parts.{below_after, grouping-within, grouping-next}
use Rattle.grib_groups.proofs.measuring.measures_of.Goals as goal

pub split_at-run-requires : goal.split_at-run-requires
split_at-run-requires c = grouping-within c.args.lengths.now c.loop-length.length-index (omega arith) (length c.loop-length.rest) c.loop-length.invariant.grouping

pub loop-length-preserved : goal.loop-length-preserved
loop-length-preserved c =
    let lengths = c.args.lengths.now in
    let i = c.loop-length.length-index in
    let rest = c.loop-length.rest in
    let run = c.split_at-run.result.0 in
    let after = c.split_at-run.result.1 in
    let measure = c.of.result in
    let before = c.loop-length.measures.items in
    record {
      grouping = grouping-next lengths i c.loop-length-test.true rest after c.split_at-run.ensures.back c.loop-length.invariant.grouping;
      codes = below_after c.args.reserved rest after (get_or lengths i 0) c.split_at-run.ensures.back c.loop-length.invariant.codes;
      are = λ more are.
          subst (λ (ms : List Measure). AreMeasures c.args.reserved c.args.bits ms (runs lengths c.args.codes.now))
          (sym (append_assoc before (measure ∷ []) more) ∙ ap (λ (ms : List Measure). ms ++ more) (sym c.in_ok-push.ensures.items))
          (c.loop-length.invariant.are (measure ∷ more)
          (known-more c.args.reserved c.args.bits lengths i c.loop-length-test.true measure more rest run after c.split_at-run.ensures.front c.split_at-run.ensures.back c.of.ensures.is are));
      count = omega (arith, ap length c.in_ok-push.ensures.items, length-append before (measure ∷ []), c.loop-length.invariant.count);
    }

pub returns-clause-are : goal.returns-clause-are
returns-clause-are c =
    subst (λ (ms : List Measure). AreMeasures c.args.reserved c.args.bits ms (runs c.args.lengths.now c.args.codes.now)) (append-nil c.loop-length.measures.items)
    (c.loop-length.invariant.are [] (none_known c.args.reserved c.args.bits (runs (drop c.loop-length.length-index c.args.lengths.now) c.loop-length.rest)))
