use Rattle.std.proofs.Common.{◌≡◌, ℕ, ◌+◌, ap, sym, ◌∙◌, arith}
use Rattle.grib_base.proofs.Firsts.{none_more}
use Rattle.grib_repack.specs.Repacked.{field_misfit}
use Rattle.grib_base.specs.Rules.{first_among}
use Rattle.grib2_message.specs.Fields.{field_count}
use Rattle.grib_packing.specs.Targets.{target_of}
use Rattle.grib_repack.specs.Lengths.{packed_length, length_with}
use Rattle.grib_repack.proofs.Fields.{fault_in, fault_long}
use Rattle.grib_repack.proofs.Whole.{length_more}
use Rattle.grib_repack.proofs.repacking.too_long.Goals as goal

pub returns-in-Err : goal.returns-in-Err
returns-in-Err c =
    let m = c.args.message.now in
    fault_in (target_of c.args.target) m c.loop-before.before c.in-Err.fault (omega (arith, c.loop-before-test.true, c.fields-before-end.ensures.count)) c.loop-before.invariant.none c.in-Err.ensures

pub loop-before-preserved : goal.loop-before-preserved
loop-before-preserved c =
    let target = target_of c.args.target in
    let m = c.args.message.now in
    let before = c.loop-before.before in
    let i = c.loop-before.invariant in
    let e = c.in-Ok.ensures in
    let long = ap packed_length e.1 in
    record {
      none = none_more (field_misfit target m) 1 before (before + 1) (omega arith) i.none e.0;
      whole = omega (arith, i.whole, length_more target m before, long, c.packed_length-whole.ensures);
      long = omega (arith, i.long);
      few = omega (arith, i.few, c.packed_length-whole.ensures, e.2.short_5, e.2.short_6, e.2.short_7);
    }

pub returns : goal.returns
returns c =
    let target = target_of c.args.target in
    let m = c.args.message.now in
    let all : c.loop-before.before ≡ field_count m = omega (arith, c.loop-before-test.false, c.loop-before.auto.before-end, c.fields-before-end.ensures.count) in
    let i = c.loop-before.invariant in
    fault_long target m c.loop-before.whole (ap (λ (n : ℕ). first_among (field_misfit target m) n 1) (sym all) ∙ i.none)
    (i.whole ∙ ap (length_with target m) all ∙ sym c.requires.whole) i.long
