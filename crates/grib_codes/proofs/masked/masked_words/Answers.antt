use Rattle.std.proofs.Common.{◌≡◌, ◌+◌, ◌-◌, ◌++◌, ℕ, List, cond, length, take, drop, ap, ap₂, ◌∙◌, arith}
use Rattle.std.proofs.lemmas.List.{length-map}
use Rattle.grib_bitmap.specs.Mask.{present_count}
use Rattle.grib_simple_reading.proofs.Masked.{present_after}
use Rattle.grib_codes.specs.KeptWords.{word_for}
use Rattle.grib_codes.proofs.Placed.{placed_present, placed_missing, placed_whole}
use Rattle.grib_codes.proofs.masked.masked_words.Goals as goal
use Rattle.grib_codes.proofs.masked.masked_words.Goals.{then-run+in_ok-extend_from_slice, else-run+in_ok-push_missing}

pub loop-place-preserved : goal.loop-place-preserved
loop-place-preserved c =
    let mask = c.args.mask.now in
    let words = c.args.words.now in
    let place = c.loop-place.place in
    let taken = c.loop-place.taken in
    let n = c.run-run.result.length in
    let old = c.loop-place.all.items in
    let after = present_after mask place n c.run-run.result.present c.run-run.ensures.same in
    elim c.if-run.branch [
      | then-run+in_ok-extend_from_slice w ↦
          let more : taken + n + present_count (drop (place + n) mask) ≡ length words =
          omega (arith, c.loop-place.invariant.taken, after ∙ ap (λ b. cond b n 0 + present_count (drop (place + n) mask)) w.if-run.true) in
          let few : taken + n - taken ≡ n = omega arith in
          rw (w.all-is, w.taken-is) (record {
            within = c.run-run.ensures.within;
            taken = more;
            placed = λ entries is.
                placed_present mask entries place taken n c.run-run.result.present old w.extend_from_slice.new.self.items c.run-run.ensures.same (c.loop-place.invariant.placed entries is)
                w.if-run.true (omega (arith, more, ap length is ∙ length-map entries word_for))
                (w.in_ok-extend_from_slice.ensures.items ∙ ap₂ (λ (k : ℕ) (ws : List ℕ). old ++ take k (drop taken ws)) few is);
          })
      | else-run+in_ok-push_missing w ↦
          let same : taken + present_count (drop (place + n) mask) ≡ length words =
          omega (arith, c.loop-place.invariant.taken, after ∙ ap (λ b. cond b n 0 + present_count (drop (place + n) mask)) w.if-run.false) in
          rw (w.all-is, w.taken-is) (record {
            within = c.run-run.ensures.within;
            taken = same;
            placed = λ entries is.
                placed_missing mask entries place taken n c.run-run.result.present old w.push_missing.new.words.items c.run-run.ensures.same (c.loop-place.invariant.placed entries is)
                w.if-run.false w.in_ok-push_missing.ensures;
          })
    ]

pub returns : goal.returns
returns c = λ entries is.
    placed_whole c.args.mask.now entries c.loop-place.place c.loop-place.taken c.loop-place.all.items (omega (arith, c.loop-place-test.false, c.len-in-loop-place.ensures)) (c.loop-place.invariant.placed entries is)
