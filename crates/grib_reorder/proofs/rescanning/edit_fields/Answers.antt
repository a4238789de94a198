use Rattle.std.proofs.Common.{◌+◌, List, ap, subst, arith}
use Rattle.std.proofs.lemmas.Result.{err_from_is_err_and}
use Rattle.grib_packing.specs.declared.written.Packed.{Packed}
use Rattle.grib_repack.specs.Lengths.{packed_length}
use Rattle.grib_reorder.specs.Fields.{AreFieldsEdited}
use Rattle.grib_reorder.proofs.Fields.{fault_in, fields_more, length_more, edited_long}
use Rattle.grib_reorder.proofs.rescanning.edit_fields.Goals as goal

pub returns-in_err-field : goal.returns-in_err-field
returns-in_err-field c =
    let m = c.args.message.now in
    let p = err_from_is_err_and c.from_residual-in_err-field.result c.from_residual-in_err-field.ensures.1 in
    rw (p.1, p.2)
    (fault_in c.args.edit.now m c.loop-before.before _ (omega (arith, c.loop-before-test.true, c.fields-fields.ensures.count)) c.loop-before.invariant.edited.fit c.in_err-field.ensures)

pub loop-before-preserved : goal.loop-before-preserved
loop-before-preserved c =
    let i = c.loop-before.invariant in
    record {
      edited = fields_more c.args.edit.now c.args.message.now c.loop-before.before c.loop-before.packed.items c.push.new.self.items c.in_ok-field.field
          i.edited c.in_ok-field.ensures c.in-Ok.ensures.items;
      total = omega (arith, i.total, length_more c.args.edit.now c.args.message.now c.loop-before.before, ap packed_length c.in_ok-field.ensures.is, c.packed_length-total.ensures);
      few = omega (arith, c.if-total-gt-MOST_OCTETS.false);
    }

pub too_long-requires-clause-whole : goal.too_long-requires-clause-whole
too_long-requires-clause-whole c = edited_long c.args.edit.now c.args.message.now c.kept_length-total.result c.kept_length-total.ensures.kept c.kept_length-total.ensures.whole

pub too_long-requires-clause-edited : goal.too_long-requires-clause-edited
too_long-requires-clause-edited c =
    let all = fields_more c.args.edit.now c.args.message.now c.loop-before.before c.loop-before.packed.items c.push.new.self.items c.in_ok-field.field
    c.loop-before.invariant.edited c.in_ok-field.ensures c.in-Ok.ensures.items in
    subst (λ (xs : List Packed). AreFieldsEdited c.args.edit.now c.args.message.now (c.loop-before.before + 1) xs) all.are all

pub too_long-requires-clause-total : goal.too_long-requires-clause-total
too_long-requires-clause-total c =
    omega (arith, c.loop-before.invariant.total, length_more c.args.edit.now c.args.message.now c.loop-before.before, ap packed_length c.in_ok-field.ensures.is, c.packed_length-total.ensures)
