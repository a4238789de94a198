use Rattle.std.proofs.Common.{sym, ap, ◌∙◌, subst, arith}
use Rattle.grib_complex_reading.specs.Running.{Run}
use Rattle.grib_complex_reading.specs.Same.{StaysWithin, after_same}
use Rattle.grib_complex_reading.proofs.RunRepeated.{after_same-add, stays-add}
use Rattle.grib_complex_reading.proofs.running.Running.push_same.Goals as goal

pub loop-done-preserved : goal.loop-done-preserved
loop-done-preserved c =
    let run = c.args.self.now in
    let code = c.args.code in
    let done = c.loop-done.done in
    let more = c.push_some-more.result in
    let so_far = c.loop-done.invariant.after in
    record {
      most = omega (arith, c.push_some-more.ensures.most, c.loop-done.invariant.most);
      after = c.push_some-more.ensures.after ∙ ap (λ (r : Run). after_same r code more) so_far ∙ sym (after_same-add run code done more);
      within = stays-add run code done more c.loop-done.invariant.within
          (subst (λ (r : Run). StaysWithin r code more) so_far c.push_some-more.ensures.within);
    }
