use Rattle.std.proofs.Common.{◌≡◌, None, MatchResult, subst, arith}
use Rattle.grib_base.proofs.Firsts.{none_more}
use Rattle.grib_base.specs.Rules.{first_among}
use Rattle.grib2_message.specs.Fields.{field_count}
use Rattle.grib_demote.specs.Demoted.{demoted}
use Rattle.grib_edit.specs.Unchanged.{IsKept}
use Rattle.grib_edit.specs.Demoting.{field_cause, demoted_cause}
use Rattle.grib_edit.proofs.Demoted.{cause_first, last_decides, kept_carried}
use Rattle.grib_edit.proofs.demoting.last_demoted.Goals as goal

pub returns-in_err-demote_field : goal.returns-in_err-demote_field
returns-in_err-demote_field c =
    let table = c.args.demoting.now.table.now in
    let matching = c.args.demoting.now.matching in
    let keep = c.args.demoting.now.keep_local in
    let any = c.args.demoting.now.any_earth in
    let m = c.args.message.now in
    kept_carried _ (demoted_cause table matching keep any m) c.from_residual.result _ c.from_residual.ensures.1
    (cause_first (field_cause table matching keep any m) c.loop-index.index _ (omega arith) c.loop-index.invariant.none (field_count m) (omega (arith, c.fields-count.ensures.count)) _
    c.in_err-demote_field.ensures)

pub loop-index-preserved : goal.loop-index-preserved
loop-index-preserved c =
    let cause = field_cause c.args.demoting.now.table.now c.args.demoting.now.matching c.args.demoting.now.keep_local c.args.demoting.now.any_earth c.args.message.now in
    record { none = none_more cause 1 c.loop-index.index _ (omega arith) c.loop-index.invariant.none c.in_ok-demote_field.ensures.0 }

pub returns : goal.returns
returns c =
    let table = c.args.demoting.now.table.now in
    let matching = c.args.demoting.now.matching in
    let keep = c.args.demoting.now.keep_local in
    let any = c.args.demoting.now.any_earth in
    let m = c.args.message.now in
    let cause = field_cause table matching keep any m in
    subst
    (λ n. MatchResult c.demote_field-2.result (λ octets. (first_among cause n 1 ≡ None) × (octets.items ≡ demoted table matching keep m n)) (IsKept (first_among cause n 1)))
    c.fields-count.ensures.count
    (last_decides (λ octets. octets.items ≡ demoted table matching keep m c.fields-count.result) cause c.loop-index.index c.fields-count.result c.demote_field-2.result
    (omega (arith, c.fields-count.ensures.some)) c.loop-index.invariant.none c.demote_field-2.ensures)
