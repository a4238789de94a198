use Rattle.std.proofs.Common.{ℕ, ◌+◌, Some, get_or, sym, ap, ◌∙◌, arith}
use Rattle.grib_reasons.specs.declared.demotion.Demotion.TheVariants.{Coordinate}
use Rattle.grib_demote.specs.Losses as losses
use Rattle.grib_demote.proofs.Lists.{coordinate_here, coordinate_later, coordinate_none, not_last}
use Rattle.grib_demote.proofs.checking.coordinate_loss.Goals as goal

pub returns-then-is_lost : goal.returns-then-is_lost
returns-then-is_lost c =
    let words = c.args.coordinates.now in
    let k = c.loop-word.word-index in
    let at = c.loop-word.invariant in
    let here = ap (λ (p : ℕ). losses.is_lost (get_or words k 0) (p + 1)) (sym at.0) ∙ sym c.is_lost.ensures ∙ c.if-is_lost.true in
    sym (at.1 ∙ coordinate_here words k (omega arith) here ∙ ap (λ (p : ℕ). Some (Coordinate (p + 1))) (sym at.0))

pub loop-word-preserved : goal.loop-word-preserved
loop-word-preserved c =
    let words = c.args.coordinates.now in
    let k = c.loop-word.word-index in
    let at = c.loop-word.invariant in
    let here = ap (λ (p : ℕ). losses.is_lost (get_or words k 0) (p + 1)) (sym at.0) ∙ sym c.is_lost.ensures ∙ c.if-is_lost.false in
    (ap (λ (p : ℕ). p + 1) at.0, at.1 ∙ coordinate_later words k (omega arith) here, not_last (get_or words k 0) k at.2 here)

pub returns : goal.returns
returns c =
    let words = c.args.coordinates.now in
    let k = c.loop-word.word-index in
    sym (c.loop-word.invariant.1 ∙ coordinate_none words k (k + 1) (omega arith))
