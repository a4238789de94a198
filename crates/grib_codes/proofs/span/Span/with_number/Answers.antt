use Rattle.std.proofs.Common.{sym, ◌∙◌, ap, refl, min, max}
use Rattle.grib_packing.specs.Groupings.{present_codes}
use Rattle.grib_codes.proofs.Spans.{smallest-more, smallest-one, greatest-one, some_present, none_present}
use Rattle.grib_codes.proofs.span.Span.with_number.Goals as goal

pub returns-then-self-clause-span : goal.returns-then-self-clause-span
returns-then-self-clause-span c run span =
    let r = span in
    let some = some_present run (sym r.present ∙ c.if-self.true) in
    record {
      least = c.min.ensures ∙ (ap (min c.args.number) r.least ∙ sym (smallest-more c.args.number (present_codes run) some));
      greatest = c.max.ensures ∙ ap (max c.args.number) r.greatest;
      present = c.if-self.true;
      primary = r.primary;
      secondary = r.secondary;
    }

pub returns-else-self-clause-span : goal.returns-else-self-clause-span
returns-else-self-clause-span c run span =
    let r = span in
    let none = none_present run (sym r.present ∙ c.if-self.false) in
    record {
      least = sym (smallest-one c.args.number (present_codes run) none);
      greatest = sym (greatest-one c.args.number (present_codes run) none);
      present = refl;
      primary = r.primary;
      secondary = r.secondary;
    }
