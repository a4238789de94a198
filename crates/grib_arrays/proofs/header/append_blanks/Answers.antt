use Rattle.std.proofs.Common.{[], ◌∷◌, ◌++◌, replicate, ap, sym, ◌∙◌, append_assoc, append-nil}
use Rattle.std.proofs.lemmas.List.{replicate_more}
use Rattle.grib_arrays.proofs.header.append_blanks.Goals as goal

pub loop-init : goal.loop-init
loop-init c = sym (append-nil c.args.octets.now.items)

pub loop-preserved : goal.loop-preserved
loop-preserved c =
    c.in_ok-push.ensures.items
    ∙ ap (λ xs. xs ++ 32 ∷ []) c.loop.invariant
    ∙ append_assoc c.args.octets.now.items (replicate c.loop.counter 32) (32 ∷ [])
    ∙ ap (λ xs. c.args.octets.now.items ++ xs) (replicate_more c.loop.counter 32)
