use Rattle.std.proofs.Common.{◌+◌, ℕ, List, take, get_or, sym, subst, ap, ◌∙◌, arith, refl}
use Rattle.grib_bitmap.specs.Mask.{present_count}
use Rattle.grib_bitmap.specs.Words.{bits_of_words, HoldBits}
use Rattle.grib_bitmap.proofs.WordBits.{counted_more, counted_fits, counted_whole, present_count-lt}
use Rattle.grib_bitmap.proofs.mask.ones.Goals as goal

pub overflow_add-ones : goal.overflow_add-ones
overflow_add-ones c =
    let words = c.deref-word-items.result.now in
    let held = subst (λ (ws : List ℕ). HoldBits ws c.mask.inside.points) (sym c.deref-word-items.ensures.value) c.mask.invariant in
    let fits = counted_fits words c.mask.inside.points c.loop-word.word-index (get_or words c.loop-word.word-index 0) c.loop-word.ones held c.loop-word-test.true (c.type_inv.word-items c.loop-word.word-index).fits c.loop-word.invariant in
    omega (arith, fits, c.from-ones.ensures)

pub loop-word-preserved : goal.loop-word-preserved
loop-word-preserved c =
    let words = c.deref-word-items.result.now in
    ap (λ (n : ℕ). c.loop-word.ones + n) c.from-ones.ensures
    ∙ counted_more words c.loop-word.word-index (get_or words c.loop-word.word-index 0) c.loop-word.ones c.loop-word-test.true refl (c.type_inv.word-items c.loop-word.word-index).fits c.loop-word.invariant

pub overflow_cast-result : goal.overflow_cast-result
overflow_cast-result c =
    let words = c.deref-word-items.result.now in
    let held = subst (λ (ws : List ℕ). HoldBits ws c.mask.inside.points) (sym c.deref-word-items.ensures.value) c.mask.invariant in
    let whole = counted_whole words c.mask.inside.points c.loop-word.word-index c.loop-word.ones held c.loop-word-test.false c.loop-word.invariant in
    omega (arith, whole, present_count-lt words c.mask.inside.points held)

pub returns : goal.returns
returns c =
    let words = c.deref-word-items.result.now in
    let same = c.deref-word-items.ensures.value in
    let held = subst (λ (ws : List ℕ). HoldBits ws c.mask.inside.points) (sym same) c.mask.invariant in
    counted_whole words c.mask.inside.points c.loop-word.word-index c.loop-word.ones held c.loop-word-test.false c.loop-word.invariant
    ∙ ap (λ (ws : List ℕ). present_count (take c.mask.inside.points (bits_of_words ws))) same
    ∙ ap present_count c.mask.view_is
