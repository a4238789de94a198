use Rattle.std.proofs.Common.{◌≡◌, ℕ, ◌<◌, sum_by, ap, arith}
use Rattle.std.specs.List.{range_with_len}
use Rattle.grib_base.specs.declared.profile.Profile.TheVariants.{Open}
use Rattle.grib2_message.specs.Fields.{field_count}
use Rattle.grib2_message.proofs.Ahead.{assembled_as_long}
use Rattle.grib2_message.proofs.Parted.{message_most}
use Rattle.grib_repack.specs.Lengths.{own_length}
use Rattle.grib_repack.proofs.Whole.{own_before, own_more, whole_length}
use Rattle.grib_repack.proofs.lengths.kept_length.Goals as goal

pub overflow_sub-total : goal.overflow_sub-total
overflow_sub-total c =
    let m = c.args.message.now in
    let before = c.loop-before.before in
    let low : before < field_count m = omega (arith, c.loop-before-test.true, c.fields-before-end.ensures.count) in
    omega (arith, own_before Open m c.octets-octets.ensures.message before low, c.loop-before.invariant, c.own_length-total.ensures)

pub loop-before-preserved : goal.loop-before-preserved
loop-before-preserved c =
    let m = c.args.message.now in
    let before = c.loop-before.before in
    let low : before < field_count m = omega (arith, c.loop-before-test.true, c.fields-before-end.ensures.count) in
    omega (arith, own_before Open m c.octets-octets.ensures.message before low, own_more Open m c.octets-octets.ensures.message before, c.loop-before.invariant, c.own_length-total.ensures)

pub returns-clause-few : goal.returns-clause-few
returns-clause-few c = omega (arith, c.loop-before.invariant, message_most Open c.args.message.now c.octets-octets.ensures.message)

pub returns-clause-kept : goal.returns-clause-kept
returns-clause-kept c =
    let m = c.args.message.now in
    let all : c.loop-before.before ≡ field_count m = omega (arith, c.loop-before-test.false, c.loop-before.auto.before-end, c.fields-before-end.ensures.count) in
    omega (arith, c.loop-before.invariant, ap (λ (n : ℕ). sum_by (own_length m) (range_with_len 1 n)) all)

pub returns-clause-whole : goal.returns-clause-whole
returns-clause-whole c grid parts one_each same =
    let m = c.args.message.now in
    let all : c.loop-before.before ≡ field_count m = omega (arith, c.loop-before-test.false, c.loop-before.auto.before-end, c.fields-before-end.ensures.count) in
    omega (
      arith,
      c.loop-before.invariant,
      ap (λ (n : ℕ). sum_by (own_length m) (range_with_len 1 n)) all,
      whole_length Open m c.octets-octets.ensures.message parts one_each,
      assembled_as_long Open grid m parts c.octets-octets.ensures.message same,
    )
