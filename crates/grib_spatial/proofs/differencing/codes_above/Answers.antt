use Rattle.std.proofs.Common.{◌++◌, ◌∷◌, [], ap₂, sym, ◌∙◌, zero-add}
use Rattle.std.proofs.lemmas.List.FromFn.{map-range_with_len_more}
use Rattle.grib_packing.specs.Differences.{code_at}
use Rattle.grib_spatial.proofs.differencing.codes_above.Goals as goal

pub loop-place-preserved : goal.loop-place-preserved
loop-place-preserved c =
    c.in_ok-push.ensures.items
    ∙ (ap₂ (λ codes code. codes ++ code ∷ []) c.loop-place.invariant c.code_above.ensures
    ∙ sym (map-range_with_len_more (code_at c.args.order c.args.values.now) 0 c.loop-place.place c.loop-place.place (zero-add c.loop-place.place)))
