use Rattle.std.proofs.Common.{◌≡◌, ℕ, ◌+◌, ◌-◌, Bool, true, false, Option, Some, None, is_some, is_none, sym, refl, ap, ◌∙◌, arith}
use Rattle.std.specs.List.{range_with_len}
use Rattle.grib_base.specs.Rules.{choose}
use Rattle.grib2_message.specs.Fields.{field_count}
use Rattle.grib_select.specs.declared.changing.SetFault.TheVariants.{KeyRange}
use Rattle.grib_select.specs.Changed.{new_number, first_without}
use Rattle.grib_select.proofs.Steps.{field_has, field_lacks}
use Rattle.grib_select.proofs.changing.check_change.Goals as goal

is_there : {A : Type 0} → (o : Option A) → is_some o ≡ true → is_none o ≡ false
is_there None e = absurd (cc)
is_there (Some x) e = refl

is_absent : {A : Type 0} → (o : Option A) → is_some o ≡ false → is_none o ≡ true
is_absent None e = refl
is_absent (Some x) e = absurd (cc)

pub returns-then-is_none-2 : goal.returns-then-is_none-2
returns-then-is_none-2 c =
    let m = c.args.message.now in
    let change = c.args.change.now in
    let key = change.key in
    let n = c.loop-field.field in
    let fits : is_none (new_number change) ≡ false = ap is_none (sym c.new_number.ensures.number) ∙ is_there c.new_number.result c.if-is_none.ensures in
    let lacks = ap is_none (sym c.key_value.ensures) ∙ is_absent c.key_value.result c.if-is_none-2.ensures in
    ap (λ (b : Bool). choose b (λ _. Some (KeyRange key)) (λ _. first_without m key (range_with_len 1 (field_count m)))) fits
    ∙ c.loop-field.invariant
    ∙ field_lacks m key n (field_count m + 1 - n) (omega (arith, c.loop-field-test.true, c.fields-field-end.ensures.count)) lacks

pub loop-field-preserved : goal.loop-field-preserved
loop-field-preserved c =
    let m = c.args.message.now in
    let key = c.args.change.now.key in
    let n = c.loop-field.field in
    let has = ap is_none (sym c.key_value.ensures) ∙ is_there c.key_value.result c.if-is_none-2.ensures in
    c.loop-field.invariant
    ∙ field_has m key n (field_count m + 1 - n) (omega (arith, c.loop-field-test.true, c.fields-field-end.ensures.count)) has
    ∙ ap (λ (k : ℕ). first_without m key (range_with_len (n + 1) k)) (let e : field_count m + 1 - n - 1 ≡ field_count m + 1 - (n + 1) = omega arith in e)
