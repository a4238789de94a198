use Rattle.std.proofs.Common.{ℕ, List, [], ◌∷◌, ◌++◌, sym, ap₂, ◌∙◌}
use Rattle.grib_bits.specs.Bits.{bits}
use Rattle.grib_packing.proofs.Fields.{plain_more}
use Rattle.grib_simple_reading.proofs.words.number_words.Goals as goal

pub loop-index-preserved : goal.loop-index-preserved
loop-index-preserved c =
    c.in_ok-push.ensures.items ∙ ap₂ (λ (ws : List ℕ) (n : ℕ). ws ++ n ∷ []) c.loop-index.invariant c.number_at.ensures.number
    ∙ sym (plain_more (bits c.args.octets.now) c.args.bits c.loop-index.index)
