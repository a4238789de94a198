use Rattle.std.proofs.Common.{◌≡◌, ◌+◌, ◌/◌, ◌%◌, ◌<◌, ◌++◌, ℕ, Bool, List, length, take, ap, refl, subst, arith}
use Rattle.std.proofs.lemmas.List.{get_or_read}
use Rattle.grib_bitmap.specs.Words.{bits_of_words}
use Rattle.grib_bitmap.proofs.WordBits.{length-mask}
use Rattle.grib_bitmap.proofs.Writing.{written_more, front-lt, written_last, written_whole, written_aligned, padding-behind}
use Rattle.grib_bitmap.proofs.mask.write_mask.Goals as goal
use Rattle.grib_bitmap.proofs.mask.write_mask.Goals.{then-rest-gt0, else-rest-gt0}

pub put-requires-clause-room : goal.put-requires-clause-room
put-requires-clause-room c =
    omega (arith, c.loop-index.invariant.spare, c.requires.room, length-mask c.mask.inside.words.items c.mask.inside.points c.mask.invariant, ap length c.mask.view_is)

pub loop-index-preserved : goal.loop-index-preserved
loop-index-preserved c =
    let words = c.mask.inside.words.items in
    let index = c.loop-index.index in
    let held = c.mask.invariant in
    let within : index < length words = omega (arith, held.long) in
    record {
      bits = written_more c.args.out.now.bits c.loop-index.out.bits c.put.new.self.bits words index c.index.result.now 64 refl within (get_or_read words index c.index.result.now within c.index.ensures 0) c.put.ensures.bits c.loop-index.invariant.bits;
      spare = omega (arith, c.put.ensures.spare, c.loop-index.invariant.spare);
    }

pub put-requires-then-rest-gt0-clause-fits : goal.put-requires-then-rest-gt0-clause-fits
put-requires-then-rest-gt0-clause-fits c = front-lt c.index-then-rest-gt0.result.now (c.mask.inside.points % 64) (omega arith) (omega arith)

pub put-requires-then-rest-gt0-clause-room : goal.put-requires-then-rest-gt0-clause-room
put-requires-then-rest-gt0-clause-room c =
    omega (arith, c.loop-index.invariant.spare, c.requires.room, length-mask c.mask.inside.words.items c.mask.inside.points c.mask.invariant, ap length c.mask.view_is)

-- the bits of the mask stand in the writer, before it is aligned
bits_before : (c : goal.After-align) → c.if-rest-gt0.out.bits ≡ c.args.out.now.bits ++ c.args.mask.now
bits_before c =
    let words = c.mask.inside.words.items in
    let points = c.mask.inside.points in
    let index = c.loop-index.index in
    let held = c.mask.invariant in
    let old = c.args.out.now.bits in
    subst (λ (mask : List Bool). c.if-rest-gt0.out.bits ≡ old ++ mask) c.mask.view_is
    (elim c.if-rest-gt0.branch [
      | then-rest-gt0 w ↦
          let word = w.index-then-rest-gt0.result.now in
          let within : points / 64 < length words = omega (arith, held.long, w.if-rest-gt0.true) in
          let place : index ≡ points / 64 = omega arith in
          rw w.out-is (written_last old c.loop-index.out.bits w.put-then-rest-gt0.new.self.bits words points (points / 64) word refl within (get_or_read words (points / 64) word within w.index-then-rest-gt0.ensures 0) w.put-then-rest-gt0.ensures.bits
          (subst (λ (n : ℕ). c.loop-index.out.bits ≡ old ++ bits_of_words (take n words)) place c.loop-index.invariant.bits))
      | else-rest-gt0 w ↦ rw w.out-is (written_whole old c.loop-index.out.bits words points index (omega arith) w.if-rest-gt0.false (omega (arith, held.long)) c.loop-index.invariant.bits)
    ])

pub returns-clause-bits : goal.returns-clause-bits
returns-clause-bits c =
    written_aligned c.args.out.now.bits c.args.mask.now c.if-rest-gt0.out.bits c.align.new.self.bits c.requires.whole (bits_before c) c.align.ensures.bits

pub returns-clause-spare : goal.returns-clause-spare
returns-clause-spare c =
    let points = c.mask.inside.points in
    let before : c.if-rest-gt0.out.spare + points ≡ c.args.out.now.spare = elim c.if-rest-gt0.branch [
      | then-rest-gt0 w ↦ rw w.out-is (omega (arith, c.loop-index.invariant.spare, w.put-then-rest-gt0.ensures.spare))
      | else-rest-gt0 w ↦ rw w.out-is (omega (arith, c.loop-index.invariant.spare, w.if-rest-gt0.false))
    ] in
    omega (arith, before, c.align.ensures.spare, padding-behind c.args.out.now.bits c.args.mask.now c.if-rest-gt0.out.bits c.requires.whole (bits_before c), length-mask c.mask.inside.words.items points c.mask.invariant, ap length c.mask.view_is)
