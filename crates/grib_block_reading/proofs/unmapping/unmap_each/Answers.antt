use Rattle.std.proofs.Common.{List, ℕ, ◌<◌, ◌∙◌, sym, subst, take, get_or, length, ◌≡◌, arith}
use Rattle.std.proofs.lemmas.List.{take-set}
use Rattle.grib_coding.specs.Mapped.{HaveCodes}
use Rattle.grib_block_reading.proofs.Blocks.{next, here, cut, done}
use Rattle.grib_block_reading.proofs.unmapping.unmap_each.Goals as goal

pub returns-then-code-most-clause-before_it : goal.returns-then-code-most-clause-before_it
returns-then-code-most-clause-before_it c =
    let now = c.loop-place.codes in
    let place = c.loop-place.place in
    let P : List ℕ → Type 0 = λ numbers. HaveCodes c.args.most c.args.before (take place c.args.codes.now) numbers in
    subst P (sym (take-set now place (get_or now place 0))) (cut _ _ _ _ _ _ c.loop-place.invariant)

pub loop-place-preserved : goal.loop-place-preserved
loop-place-preserved c =
    let so = c.loop-place.invariant in
    let within : c.loop-place.place < length c.args.codes.now = omega arith in
    let same : length c.loop-place.codes ≡ length c.args.codes.now = omega arith in
    next _ _ _ _ _ _ _ so within same c.unmap-before.ensures.within
    (c.unmap-before.ensures.is ∙ here _ _ _ _ _ _ so within same)

pub returns-clause-ok : goal.returns-clause-ok
returns-clause-ok c = done _ _ _ _ _ _ c.loop-place.invariant (omega arith) (omega arith)
