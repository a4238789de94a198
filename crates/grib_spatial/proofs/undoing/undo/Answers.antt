use Rattle.std.proofs.Common.{◌≡◌, ◌+◌, refl, ap, ◌∙◌, arith, length, to_z, of_z, w64}
use Rattle.std.proofs.lemmas.Int.{ints}
use Rattle.grib_base.specs.Rules.{first_place}
use Rattle.grib_packing.specs.Differences.{undone, is_beyond}
use Rattle.grib_spatial.proofs.Whole.{gave_next, gave_beyond, gave_all}
use Rattle.grib_spatial.proofs.undoing.undo.Goals as goal

pub returns-in-Err : goal.returns-in-Err
returns-in-Err c =
    let i = c.loop-code.invariant in
    let told = c.loop-code.running.told in
    let codes = c.as_slice-codes.result.now in
    let found : first_place is_beyond (undone told codes) ≡ length c.loop-code.numbers.items + 1 =
    gave_beyond told c.loop-code.running.last codes c.loop-code.code-index _ c.loop-code.numbers.items (undone told codes) c.loop-code-test.true refl c.in-Err.ensures.beyond i.gave in
    let e = rw (i.told, c.as_slice-codes.ensures) at found in
    (omega (arith, e, c.len.ensures), omega (arith, e))

pub loop-code-preserved : goal.loop-code-preserved
loop-code-preserved c =
    let i = c.loop-code.invariant in
    let told = c.loop-code.running.told in
    let codes = c.as_slice-codes.result.now in
    let after = c.in-Ok-push.ensures.after in
    let same : to_z w64 (of_z w64 c.in-Ok-push.number) ≡ c.in-Ok-push.number = omega (arith, ints) in
    record {
      told = ap (λ r. r.told) after ∙ i.told;
      gave = rw (after, c.in-Ok-push-2.ensures.items)
          (gave_next told c.loop-code.running.last codes c.loop-code.code-index _ c.loop-code.numbers.items (undone told codes) (to_z w64 (of_z w64 c.in-Ok-push.number))
          c.loop-code-test.true refl (same ∙ c.in-Ok-push.ensures.number) c.in-Ok-push.ensures.within i.gave);
    }

pub returns : goal.returns
returns c =
    let i = c.loop-code.invariant in
    let told = c.loop-code.running.told in
    let codes = c.as_slice-codes.result.now in
    let e = gave_all told c.loop-code.running.last codes c.loop-code.code-index c.loop-code.numbers.items (undone told codes) c.loop-code-test.false i.gave in
    rw (i.told, c.as_slice-codes.ensures) at e
