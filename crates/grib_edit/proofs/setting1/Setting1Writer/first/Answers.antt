use Rattle.std.proofs.Common.{◌≡◌, ℕ, ◌≤◌, Option, option_map, List, length, sym, ap, ap₂, ◌∙◌, subst, arith, append-nil}
use Rattle.std.specs.Option.{option_or}
use Rattle.grib_keys.specs.declared.key1.Key1.{Key1}
use Rattle.grib1_select.specs.Changed.{with_keys1, set_fault1}
use Rattle.grib1_select.proofs.Set.{opens, length-with_keys1}
use Rattle.grib_dates.specs.Times.{is_valid_time1}
use Rattle.grib_reasons.specs.declared.cause.Cause.{Cause}
use Rattle.grib_reasons.specs.declared.cause.Cause.TheVariants.{KeyRange1}
use Rattle.grib_command.proofs.Answers.{as_given}
use Rattle.grib_command.specs.Command.{given_unless}
use Rattle.grib_edit.specs.Setting.{date_cause}
use Rattle.grib_edit.specs.Unchanged.{answered_unset1}
use Rattle.grib_edit.specs.Setting1.{set1_cause}
use Rattle.grib_edit.proofs.KeptBy.{by_cause, not_set1, fault_first}
use Rattle.grib_edit.proofs.setting1.Setting1Writer.first.Goals as goal

pub is_valid_time1-requires : goal.is_valid_time1-requires
is_valid_time1-requires g c =
    let m = c.args.message.now in
    let changes = c.args.self.now.changes.now in
    let o = opens m c.octets-accepted.ensures.message in
    subst (λ (s : List ℕ). 36 ≤ length s) (sym (c.as_slice-octets.ensures.value ∙ c.in-Ok.ensures.1))
    (omega (arith, length-with_keys1 m changes o, o.long, o.there))

pub returns-in-Ok : goal.returns-in-Ok
returns-in-Ok g c =
    let m = c.args.message.now in
    let number = c.args._place.now.message in
    let changes = c.args.self.now.changes.now in
    let dates = c.args.self.now.dates in
    let date = date_cause dates (is_valid_time1 (with_keys1 m changes)) in
    let octets : c.as_slice-octets.result.now ≡ with_keys1 m changes = c.as_slice-octets.ensures.value ∙ c.in-Ok.ensures.1 in
    let cause : date_cause dates c.is_valid_time1.result ≡ set1_cause dates changes m =
    ap (date_cause dates) (c.is_valid_time1.ensures ∙ ap is_valid_time1 octets) ∙ sym (ap (λ (f : Option Key1). option_or (option_map KeyRange1 f) date) c.in-Ok.ensures.0) in
    as_given g.T.Sink.contents g.T.Sink.faults g.T.Sink.settled c.write_dated.result number _ _ _ _
    (ap₂ (λ (x : Option Cause) (xs : List ℕ). given_unless x number xs) (sym cause) (sym (append-nil c.as_slice-octets.result.now ∙ octets))) (c.write_dated.ensures number)

pub returns-in-Err : goal.returns-in-Err
returns-in-Err g c =
    let m = c.args.message.now in
    let changes = c.args.self.now.changes.now in
    let date = date_cause c.args.self.now.dates (is_valid_time1 (with_keys1 m changes)) in
    by_cause g.T.Sink.contents g.T.Sink.faults g.T.Sink.settled c.unset1.result _ _ _ _ _ c.unset1.ensures
    (fault_first (option_map KeyRange1 (set_fault1 changes)) date (answered_unset1 c.in-Err.fault) (not_set1 (set_fault1 changes) c.in-Err.fault c.in-Err.ensures))
