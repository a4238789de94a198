use Rattle.std.proofs.Common.{◌≡◌, ◌+◌, ◌<◌, inl, inr, ℕ, Option, List, ap, ◌∙◌, arith}
use Rattle.std.proofs.lemmas.Bool.{cases_lt}
use Rattle.grib_base.proofs.Firsts.{none_from_each}
use Rattle.grib_command.specs.Command.{texts_from}
use Rattle.grib_command.specs.Judging.{fields_of}
use Rattle.grib_reasons.specs.declared.cause.Cause.{Cause}
use Rattle.grib_compare.specs.Command.{counterpart, on_counterpart, compare_line, field_compared, line_beside, differing_beside, differing_from}
use Rattle.grib_compare.specs.Lawful.{differing_once}
use Rattle.grib_compare.specs.Seen.{readable_octets}
use Rattle.grib_compare.proofs.Causes.{stopped_by}
use Rattle.grib_compare.proofs.Counted.{count_more, text_more, stops_at}
use Rattle.grib_compare.proofs.comparing.Comparing.lines.Goals as goal

pub returns-in_err-comparison : goal.returns-in_err-comparison
returns-in_err-comparison c =
    let l = c.loop-index in
    let fields = c.args.self.now.file.now.fields in
    let place = c.args.place.now in
    let m = readable_octets c.args.message.now in
    let cause : ℕ → Option Cause = λ i. on_counterpart (counterpart fields place i) i in
    let within : l.index < fields_of m = omega (arith, c.fields-index-end.ensures, c.loop-index-test.true) in
    stopped_by c.from_residual.result _ _ _ c.from_residual.ensures.1 (stops_at cause (fields_of m) l.index _ within l.invariant.clear c.in_err-comparison.ensures.compared)

pub loop-index-preserved : goal.loop-index-preserved
loop-index-preserved c =
    let l = c.loop-index in
    let fields = c.args.self.now.file.now.fields in
    let sections = c.args.self.now.sections in
    let quiet = c.args.self.now.quiet in
    let place = c.args.place.now in
    let m = readable_octets c.args.message.now in
    let cause : ℕ → Option Cause = λ i. on_counterpart (counterpart fields place i) i in
    let line : ℕ → List ℕ = compare_line sections quiet fields place m in
    let count : ℕ → ℕ = λ i. differing_beside (field_compared sections fields place m i) in
    let found = c.in_ok-comparison.comparison in
    record {
      clear = λ j within. elim (cases_lt j l.index) [
        | inl earlier ↦ l.invariant.clear j earlier
        | inr now ↦ let e : 1 + j ≡ l.index + 1 = omega arith in ap cause e ∙ c.in_ok-comparison.ensures.compared.0
      ];
      text = text_more line l.index l.lines.text.items (line_beside quiet place.message (l.index + 1) found) c.append.new.self.text.items l.invariant.text
          (ap (line_beside quiet place.message (l.index + 1)) c.in_ok-comparison.ensures.compared.1) c.in_ok-append.ensures.text;
      count = count_more count l.index l.lines.differing (differing_beside found) c.append.new.self.differing l.invariant.count (ap differing_beside c.in_ok-comparison.ensures.compared.1)
          c.in_ok-append.ensures.count;
      few = omega (arith, differing_once found, c.in_ok-append.ensures.count, l.invariant.few);
      stands = c.in_ok-comparison.ensures.stands;
    }

pub returns : goal.returns
returns c =
    let l = c.loop-index in
    let fields = c.args.self.now.file.now.fields in
    let sections = c.args.self.now.sections in
    let place = c.args.place.now in
    let m = readable_octets c.args.message.now in
    let cause : ℕ → Option Cause = λ i. on_counterpart (counterpart fields place i) i in
    let e : l.index ≡ fields_of m = omega (arith, c.fields-index-end.ensures, c.loop-index-test.false) in
    record {
      clear = none_from_each cause 1 (fields_of m) (λ j within. l.invariant.clear j (omega (arith, e)));
      text = l.invariant.text ∙ ap (λ n. texts_from (compare_line sections c.args.self.now.quiet fields place m) n 1) e;
      count = l.invariant.count ∙ ap (λ n. differing_from (λ i. differing_beside (field_compared sections fields place m i)) n 1) e;
    }
