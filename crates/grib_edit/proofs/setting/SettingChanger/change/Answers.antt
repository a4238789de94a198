use Rattle.std.proofs.Common.{◌≡◌, ℕ, ◌≤◌, Option, List, ◌-◌, ◌++◌, length, take, drop, sym, ap, ap₂, ◌∙◌, subst}
use Rattle.std.specs.Option.{option_or}
use Rattle.std.proofs.lemmas.List.{take_rest}
use Rattle.grib_dates.specs.Times.{is_valid_time2}
use Rattle.grib_reasons.specs.declared.cause.Cause.{Cause}
use Rattle.grib_select.specs.Changed.{with_keys, set_fault}
use Rattle.grib_select.specs.declared.changing.SetFault.{SetFault}
use Rattle.grib_command.proofs.Answers.{as_given}
use Rattle.grib_command.specs.Command.{given_unless}
use Rattle.grib_edit.specs.Setting.{set_cause, date_cause}
use Rattle.grib_edit.specs.Unchanged.{answered_unset}
use Rattle.grib_edit.proofs.Both.{time_in_front}
use Rattle.grib_edit.proofs.KeptBy.{by_cause, not_set, fault_first}
use Rattle.grib_edit.proofs.setting.SettingChanger.change.Goals as goal

pub is_valid_time2-requires : goal.is_valid_time2-requires
is_valid_time2-requires g c = subst (λ (s : List ℕ). 35 ≤ length s) (sym c.as_slice-front.ensures.value) c.in-Ok.ensures.1.least

pub returns-in-Ok : goal.returns-in-Ok
returns-in-Ok g c = λ place.
    let m = c.args.message.now in
    let changes = c.args.self.now.changes.now in
    let dates = c.args.self.now.dates in
    let front = c.as_slice-front.result.now in
    let date = date_cause dates (is_valid_time2 (with_keys m changes)) in
    let whole = c.octets-octets.result.now in
    let rest = take (length whole - length front) (drop (length front) whole) in
    let made = c.as_slice-front.ensures.value in
    let octets : front ++ rest ≡ with_keys m changes =
    ap (λ (xs : List ℕ). front ++ xs) (take_rest whole (length front))
    ∙ ap₂ (λ (xs ys : List ℕ). xs ++ drop (length xs) ys) made c.octets-octets.ensures.octets
    ∙ c.in-Ok.ensures.1.joined in
    let long : 35 ≤ length front = subst (λ (s : List ℕ). 35 ≤ length s) (sym made) c.in-Ok.ensures.1.least in
    let time : is_valid_time2 front ≡ is_valid_time2 (with_keys m changes) = sym (time_in_front front rest long) ∙ ap is_valid_time2 octets in
    let cause : date_cause dates c.is_valid_time2.result ≡ option_or (set_cause (set_fault m changes)) date =
    ap (date_cause dates) (c.is_valid_time2.ensures ∙ time) ∙ sym (ap (λ (f : Option SetFault). option_or (set_cause f) date) c.in-Ok.ensures.0) in
    as_given g.T.Sink.contents g.T.Sink.faults g.T.Sink.settled c.write_dated.result place.message _ _ _ _
    (ap₂ (λ (x : Option Cause) (xs : List ℕ). given_unless x place.message xs) (sym cause) (sym octets)) (c.write_dated.ensures place.message)

pub returns-in-Err : goal.returns-in-Err
returns-in-Err g c = λ place.
    let m = c.args.message.now in
    let changes = c.args.self.now.changes.now in
    let date = date_cause c.args.self.now.dates (is_valid_time2 (with_keys m changes)) in
    by_cause g.T.Sink.contents g.T.Sink.faults g.T.Sink.settled c.unset.result _ _ _ _ _ c.unset.ensures
    (fault_first (set_cause (set_fault m changes)) date (answered_unset c.in-Err.fault) (not_set (set_fault m changes) c.in-Err.fault c.in-Err.ensures))
