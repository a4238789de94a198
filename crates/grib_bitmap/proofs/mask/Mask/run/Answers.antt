use Rattle.std.proofs.Common.{◌≡◌, ◌≢◌, ◌+◌, ◌-◌, ◌/◌, ◌<◌, ℕ, min, List, Bool, length, drop, replicate, ◌++◌, slice_get, Some, sym, subst, ap, ◌∙◌, inl, inr, arith}
use Rattle.std.proofs.lemmas.Bool.{cases_lt}
use Rattle.std.proofs.lemmas.List.{get_or_read}
use Rattle.grib_bitmap.specs.Words.{bits_of_words}
use Rattle.grib_bitmap.proofs.WordBits.{length-mask}
use Rattle.grib_bitmap.proofs.RunBits.{run_step, run_stops, run_more, Ended, mask_run, mask_stops, last-le}
use Rattle.grib_bitmap.proofs.mask.Mask.run.Goals as goal
use Rattle.grib_bitmap.proofs.mask.Mask.run.Goals.{else-loop-end-test, then-loop-end-test+then-skip-same-lt64}

pub loop-end-preserved : goal.loop-end-preserved
loop-end-preserved c =
    let words = c.self.inside.words.items in
    let end = c.loop-end.end in
    let held = c.self.invariant in
    let inside : end / 64 < length words = omega (arith, held.long, c.from.ensures) in
    let same = c.same_bits-same.result in
    let more : end + same ≡ end + c.from-end-in-loop-end.result = ap (λ (n : ℕ). end + n) (sym c.from-end-in-loop-end.ensures) in
    let here = run_step words end c.index.result.now same c.get-present.result inside (get_or_read words (end / 64) c.index.result.now inside c.index.ensures 0) c.same_bits-same.ensures.within c.same_bits-same.ensures.same in
    let all = run_more (bits_of_words words) c.args.from end same c.get-present.result c.loop-end.invariant.begun c.loop-end.invariant.same here in
    record {
      begun = omega (arith, c.loop-end.invariant.begun);
      same = subst (λ (n : ℕ). drop c.args.from (bits_of_words words) ≡ replicate (n - c.args.from) c.get-present.result ++ drop n (bits_of_words words)) more all;
    }

ended : (c : goal.After-min) → Ended (bits_of_words c.self.inside.words.items) c.self.inside.points c.args.from c.loop-end-test.end c.get-present.result
ended c =
    let words = c.self.inside.words.items in
    let end = c.loop-end.end in
    let held = c.self.invariant in
    elim c.loop-end-test.branch [
      | else-loop-end-test w ↦ rw w.end-is (record {
        begun = c.loop-end.invariant.begun;
        same = c.loop-end.invariant.same;
        stop = inl (omega (arith, w.loop-end-test.false, c.from.ensures));
      })
      | then-loop-end-test+then-skip-same-lt64 w ↦
          let same = w.same_bits-same.result in
          let inside : end / 64 < length words = omega (arith, held.long, c.from.ensures, w.loop-end-test.true) in
          let is_word = get_or_read words (end / 64) w.index.result.now inside w.index.ensures 0 in
          let here = run_step words end w.index.result.now same c.get-present.result inside is_word w.same_bits-same.ensures.within w.same_bits-same.ensures.same in
          let last : c.loop-end-test.end ≡ end + same = w.end-is ∙ ap (λ (n : ℕ). end + n) w.from-end-in-loop-end.ensures in
          rw last (record {
            begun = omega (arith, c.loop-end.invariant.begun);
            same = run_more (bits_of_words words) c.args.from end same c.get-present.result c.loop-end.invariant.begun c.loop-end.invariant.same here;
            stop = inr (run_stops words end w.index.result.now same c.get-present.result inside is_word w.same_bits-same.ensures.within w.if-skip-same-lt64.true w.same_bits-same.ensures.longest);
          })
    ]

within : (c : goal.After-min) → c.args.from < c.self.inside.points
within c = omega (arith, length-mask c.self.inside.words.items c.self.inside.points c.self.invariant, ap length c.self.view_is, c.requires)

is_last : (c : goal.After-min) → c.min.result ≡ min c.loop-end-test.end c.self.inside.points
is_last c = c.min.ensures ∙ ap (λ (n : ℕ). min c.loop-end-test.end n) c.from-2.ensures

pub returns-clause-within : goal.returns-clause-within
returns-clause-within c =
    let le = last-le c.self.inside.words.items c.self.inside.points c.args.from c.loop-end-test.end c.min.result c.get-present.result c.self.invariant (within c) (ended c) (is_last c) in
    omega (arith, le, length-mask c.self.inside.words.items c.self.inside.points c.self.invariant, ap length c.self.view_is)

stops : (c : goal.After-min) → slice_get c.args.self.now (c.args.from + (c.min.result - c.args.from)) ≢ Some c.get-present.result
stops c =
    subst (λ (mask : List Bool). slice_get mask (c.args.from + (c.min.result - c.args.from)) ≢ Some c.get-present.result) c.self.view_is
    (mask_stops c.self.inside.words.items c.self.inside.points c.args.from c.loop-end-test.end c.min.result c.get-present.result c.self.invariant (within c) (ended c) (is_last c))

pub returns-clause-longest : goal.returns-clause-longest
returns-clause-longest c = stops c

pub returns-clause-same : goal.returns-clause-same
returns-clause-same c =
    subst (λ (mask : List Bool). drop c.args.from mask ≡ replicate (c.min.result - c.args.from) c.get-present.result ++ drop (c.args.from + (c.min.result - c.args.from)) mask) c.self.view_is
    (mask_run c.self.inside.words.items c.self.inside.points c.args.from c.loop-end-test.end c.min.result c.get-present.result c.self.invariant (within c) (ended c) (is_last c))

-- the run has the bit that was asked for, since it stops before another
pub returns-clause-some : goal.returns-clause-some
returns-clause-some c = elim (cases_lt c.args.from c.min.result) [
  | inl some ↦ omega arith
  | inr none ↦
      let here : c.args.from ≡ c.args.from + (c.min.result - c.args.from) = omega arith in
      absurd (stops c (ap (slice_get c.args.self.now) (sym here) ∙ c.get-present.ensures))
]
