use Rattle.std.proofs.Common.{◌≡◌, ◌+◌, ◌<◌, is_some, true, false, inl, inr, sym, ap, ◌∙◌, arith}
use Rattle.std.proofs.lemmas.Bool.{cases_lt}
use Rattle.grib_base.proofs.Firsts.{none_from_each}
use Rattle.grib2_message.specs.Fields.{field_count}
use Rattle.grib_report.specs.Valuing.{field_cause}
use Rattle.grib_report.proofs.Causes.{causes_at, not_some}
use Rattle.grib_report.proofs.valuing.decimal_cause.Goals as goal

pub returns-then-is_some : goal.returns-then-is_some
returns-then-is_some c =
    let l = c.loop-index in
    let m = c.args.message.now in
    let found = c.in_ok-cause.cause in
    let within : l.index < field_count m = omega (arith, c.fields-index-end.ensures.count, c.loop-index-test.true) in
    let e : 1 + l.index ≡ l.index + 1 = omega arith in
    let here : field_cause c.args.places m (1 + l.index) ≡ found = ap (field_cause c.args.places m) e ∙ sym c.in_ok-cause.ensures in
    let some : is_some found ≡ true = sym c.is_some.ensures ∙ c.if-is_some.true in
    sym (causes_at (field_cause c.args.places m) (field_count m) 1 l.index found within l.invariant here some)

pub loop-index-preserved : goal.loop-index-preserved
loop-index-preserved c j before =
    let l = c.loop-index in
    let m = c.args.message.now in
    let found = c.in_ok-cause.cause in
    let none : is_some found ≡ false = sym c.is_some.ensures ∙ c.if-is_some.false in
    elim (cases_lt j l.index) [
      | inl earlier ↦ l.invariant j earlier
      | inr now ↦
          let e : 1 + j ≡ l.index + 1 = omega arith in
          ap (field_cause c.args.places m) e ∙ sym c.in_ok-cause.ensures ∙ not_some found none
    ]

pub returns : goal.returns
returns c =
    let l = c.loop-index in
    let m = c.args.message.now in
    let count = c.fields-index-end.ensures.count in
    let all = c.loop-index-test.false in
    sym (none_from_each (field_cause c.args.places m) 1 (field_count m) (λ j within. l.invariant j (omega (arith, count, all))))
