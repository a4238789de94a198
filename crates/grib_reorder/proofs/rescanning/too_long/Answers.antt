use Rattle.std.proofs.Common.{◌≡◌, ◌+◌, ◌∷◌, [], ◌++◌, ℕ, map, ap, sym, ◌∙◌, subst, arith}
use Rattle.std.specs.List.{range_with_len}
use Rattle.std.proofs.lemmas.List.FromFn.{map-range_with_len_more}
use Rattle.grib_packing.specs.declared.written.Packed.{Packed}
use Rattle.grib2_message.specs.Fields.{field_count, part_octets}
use Rattle.grib_repack.specs.Lengths.{packed_length}
use Rattle.grib_reorder.specs.Fields.{AreFieldsEdited, length_with}
use Rattle.grib_reorder.specs.Lengths.{as_long}
use Rattle.grib_reorder.specs.Rescanned.{edited_field}
use Rattle.grib_reorder.proofs.Fields.{fault_in, fault_long, fields_more, each_taken, length_more}
use Rattle.grib_reorder.proofs.rescanning.too_long.Goals as goal

pub returns-in-Err : goal.returns-in-Err
returns-in-Err c =
    fault_in c.args.edit.now c.args.message.now c.loop-before.before c.in-Err.fault (omega (arith, c.loop-before-test.true, c.fields-before-end.ensures.count))
    c.loop-before.invariant.edited.fit c.in-Err.ensures

pub loop-before-preserved : goal.loop-before-preserved
loop-before-preserved c =
    let edit = c.args.edit.now in
    let m = c.args.message.now in
    let before = c.loop-before.before in
    let i = c.loop-before.invariant in
    let e = c.in-Ok.ensures in
    let first = map (edited_field edit m) (range_with_len 1 before) in
    let more : map (edited_field edit m) (range_with_len 1 (before + 1)) ≡ first ++ c.in-Ok.field ∷ [] =
    map-range_with_len_more (edited_field edit m) 1 before (before + 1) (omega arith) ∙ ap (λ (p : Packed). first ++ p ∷ []) (sym e.is) in
    record {
      edited = fields_more edit m before first (map (edited_field edit m) (range_with_len 1 (before + 1))) c.in-Ok.field i.edited e more;
      whole = omega (arith, i.whole, length_more edit m before, ap packed_length e.is, c.packed_length-whole.ensures);
      long = omega (arith, i.long);
      few = omega (arith, i.few, c.packed_length-whole.ensures, e.short.short_5, e.short.short_6, e.short.short_7);
    }

pub returns : goal.returns
returns c =
    let edit = c.args.edit.now in
    let m = c.args.message.now in
    let all : c.loop-before.before ≡ field_count m = omega (arith, c.loop-before-test.false, c.loop-before.auto.before-end, c.fields-before-end.ensures.count) in
    let i = c.loop-before.invariant in
    let edited = subst (λ (n : ℕ). AreFieldsEdited edit m n (map (edited_field edit m) (range_with_len 1 n))) all i.edited in
    let taken = each_taken edit m (field_count m) (map (edited_field edit m) (range_with_len 1 (field_count m))) edited in
    let long = c.requires.whole (λ i low high. let t = taken i low high in as_long edit (part_octets m i 3) (c.requires.stands, t.0, t.1)) in
    fault_long edit m c.loop-before.whole edited.fit (i.whole ∙ ap (length_with edit m) all ∙ sym long) i.long
