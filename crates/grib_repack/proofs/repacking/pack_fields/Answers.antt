use Rattle.std.proofs.Common.{◌+◌, refl, ap, arith}
use Rattle.std.proofs.lemmas.Result.{err_from_is_err_and}
use Rattle.grib_base.proofs.Firsts.{none_more}
use Rattle.grib2_message.specs.Assembled.{as_it_is}
use Rattle.grib_repack.specs.Repacked.{packed_field, field_misfit}
use Rattle.grib_packing.specs.Targets.{target_of}
use Rattle.grib_repack.proofs.Fields.{fault_in}
use Rattle.grib_repack.specs.Lengths.{packed_length}
use Rattle.grib_repack.proofs.Whole.{length_more, repacked_long}
use Rattle.grib_repack.proofs.Packing.{parts_more, short_more}
use Rattle.grib_repack.proofs.repacking.pack_fields.Goals as goal

pub returns-in_err-field : goal.returns-in_err-field
returns-in_err-field c =
    let target = target_of c.args.target in
    let m = c.args.message.now in
    let p = err_from_is_err_and c.from_residual-in_err-field.result c.from_residual-in_err-field.ensures.1 in
    rw (p.1, p.2)
    (fault_in target m c.loop-before.before _ (omega (arith, c.loop-before-test.true, c.fields-fields.ensures.count)) c.loop-before.invariant.none c.in_err-field.ensures)

pub loop-before-preserved : goal.loop-before-preserved
loop-before-preserved c =
    let target = target_of c.args.target in
    let m = c.args.message.now in
    let before = c.loop-before.before in
    let i = c.loop-before.invariant in
    record {
      none = none_more (field_misfit target m) 1 before (before + 1) (omega arith) i.none c.in_ok-field.ensures.0;
      packed = parts_more (packed_field target m) before c.loop-before.packed.items c.push.new.self.items c.in_ok-field.field i.packed c.in_ok-field.ensures.1 c.in-Ok.ensures.items;
      short = short_more c.loop-before.packed.items c.push.new.self.items c.in_ok-field.field i.short c.in_ok-field.ensures.2 c.in-Ok.ensures.items;
      total = omega (arith, i.total, length_more target m before, ap packed_length c.in_ok-field.ensures.1, c.packed_length-total.ensures);
      few = omega (arith, c.if-total-gt-MOST_OCTETS.false);
    }

pub too_long-requires-clause-fit : goal.too_long-requires-clause-fit
too_long-requires-clause-fit c = none_more (field_misfit (target_of c.args.target) c.args.message.now) 1 c.loop-before.before (c.loop-before.before + 1) (omega arith) c.loop-before.invariant.none c.in_ok-field.ensures.0

pub too_long-requires-clause-whole : goal.too_long-requires-clause-whole
too_long-requires-clause-whole c =
    repacked_long (target_of c.args.target) c.args.message.now c.kept_length-total.result c.kept_length-total.ensures.kept
    (λ parts one_each. c.kept_length-total.ensures.whole as_it_is parts one_each (λ i low high. refl))

pub too_long-requires-clause-total : goal.too_long-requires-clause-total
too_long-requires-clause-total c =
    let target = target_of c.args.target in
    let m = c.args.message.now in
    let before = c.loop-before.before in
    omega (arith, c.loop-before.invariant.total, length_more target m before, ap packed_length c.in_ok-field.ensures.1, c.packed_length-total.ensures)
