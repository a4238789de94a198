use Rattle.std.proofs.Common.{◌≡◌, ℕ, ◌+◌, length, map, refl, ap, ◌∙◌, arith}
use Rattle.std.specs.List.{range_with_len}
use Rattle.grib_base.specs.declared.profile.Profile.TheVariants.{Open}
use Rattle.grib2_message.specs.Assembled.{as_it_is}
use Rattle.grib2_message.specs.Fields.{field_count}
use Rattle.grib2_message.proofs.Parted.{message_most}
use Rattle.grib_repack.proofs.Packing.{parts_more, short_more}
use Rattle.grib_least.specs.Least.{least_form, size_of}
use Rattle.grib_least.proofs.Counted.{chosen, chosen_more, chosen_first, least_long}
use Rattle.grib_least.proofs.choosing.least_forms.Goals as goal

pub returns-then-limit-total : goal.returns-then-limit-total
returns-then-limit-total c =
    let m = c.args.message.now in
    let profile = c.args.profile in
    let before = c.loop-before.before in
    omega (
      arith,
      c.loop-before.invariant.total,
      c.size-total.ensures,
      ap size_of c.in_ok-form.ensures.form,
      chosen_more profile m before,
      chosen_first profile m (before + 1) (omega (arith, c.loop-before-test.true, c.fields-fields.ensures.count)),
      least_long profile m c.kept_length-total.result (λ parts one_each. c.kept_length-total.ensures.whole as_it_is parts one_each (λ i low high. refl)),
      c.kept_length-total.ensures.kept,
      c.if-limit-total.true,
      ap length c.octets.ensures.octets,
    )

pub loop-before-preserved : goal.loop-before-preserved
loop-before-preserved c =
    let m = c.args.message.now in
    let i = c.loop-before.invariant in
    record {
      forms = parts_more (least_form c.args.profile m) c.loop-before.before c.loop-before.forms.items c.push.new.self.items c.in_ok-form.form i.forms c.in_ok-form.ensures.form c.in_ok-push.ensures.items;
      short = short_more c.loop-before.forms.items c.push.new.self.items c.in_ok-form.form i.short c.in_ok-form.ensures.short c.in_ok-push.ensures.items;
      total = omega (arith, i.total, c.size-total.ensures, ap size_of c.in_ok-form.ensures.form, chosen_more c.args.profile m c.loop-before.before);
      few = omega (arith, c.if-limit-total.false, ap length c.octets.ensures.octets, message_most Open m c.octets.ensures.message);
      less = λ some. omega (arith, c.if-limit-total.false, ap length c.octets.ensures.octets);
    }

pub returns : goal.returns
returns c =
    let m = c.args.message.now in
    let i = c.loop-before.invariant in
    let all : c.loop-before.before ≡ field_count m = omega (arith, c.loop-before-test.false, c.loop-before.auto.before-end, c.fields-fields.ensures.count) in (
      i.forms ∙ ap (λ (n : ℕ). map (least_form c.args.profile m) (range_with_len 1 n)) all,
      i.short,
      omega (
        arith,
        i.total,
        ap (chosen c.args.profile m) all,
        i.less (omega (arith, all, c.fields-fields.ensures.some, c.fields-fields.ensures.count)),
        least_long c.args.profile m c.kept_length-total.result (λ parts one_each. c.kept_length-total.ensures.whole as_it_is parts one_each (λ i low high. refl)),
        c.kept_length-total.ensures.kept,
      ),
    )
