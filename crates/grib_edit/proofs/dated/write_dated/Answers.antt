use Rattle.std.proofs.Common.{◌≡◌, Bool, true, false, ◌++◌, Some, None, refl, sym, ◌∙◌}
use Rattle.std.specs.Prelude.{is_some}
use Rattle.grib_dates.specs.declared.rule.Dates.{Dates}
use Rattle.grib_dates.specs.declared.rule.Dates.TheVariants.{Any, Valid}
use Rattle.grib_reasons.specs.declared.cause.Cause.TheVariants.{Date}
use Rattle.grib_command.proofs.Answers.{by_octets}
use Rattle.grib_command.specs.declared.answered.Answered.TheVariants.{Kept}
use Rattle.grib_edit.specs.Setting.{date_cause}
use Rattle.grib_edit.proofs.KeptBy.{kept}
use Rattle.grib_edit.proofs.dated.write_dated.Goals as goal

some_date : (dates : Dates) (valid : Bool) → is_some (date_cause dates valid) ≡ true → date_cause dates valid ≡ Some Date
some_date Any valid e = absurd (cc)
some_date Valid true e = absurd (cc)
some_date Valid false e = refl

no_date : (dates : Dates) (valid : Bool) → is_some (date_cause dates valid) ≡ false → date_cause dates valid ≡ None
no_date Any valid e = refl
no_date Valid true e = refl
no_date Valid false e = absurd (cc)

pub returns-then-is_refused : goal.returns-then-is_refused
returns-then-is_refused g c = λ m.
    kept g.T.Sink.contents g.T.Sink.faults g.T.Sink.settled (Kept Date) (date_cause c.args.dates c.args.is_valid) m (c.args.front.now ++ c.args.rest.now) c.args.output.now
    (some_date c.args.dates c.args.is_valid (sym c.is_refused.ensures ∙ c.if-is_refused.true))

pub returns : goal.returns
returns g c = λ m.
    by_octets g.T.Sink.contents g.T.Sink.faults g.T.Sink.settled c.write_both.result c.written.result (date_cause c.args.dates c.args.is_valid) m (c.args.front.now ++ c.args.rest.now) (c.args.front.now ++ c.args.rest.now) _ _
    c.written.ensures (no_date c.args.dates c.args.is_valid (sym c.is_refused.ensures ∙ c.if-is_refused.false)) refl c.write_both.ensures.count c.write_both.ensures.writes
