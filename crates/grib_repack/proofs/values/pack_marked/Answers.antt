use Rattle.std.proofs.Common.{◌≡◌, ℕ, ◌^◌, ◌<◌, ◌≤◌, Bool, cond, List, [], ◌++◌, length, sym, ap, ◌∙◌, Ok, arith, subst}
use Rattle.grib_bits.specs.Bits.{bits_of}
use Rattle.grib_bitmap.specs.Mask.{present_count}
use Rattle.grib_codes.proofs.AsWords.{whole_mask}
use Rattle.grib_packing.specs.declared.column.Point.{Point}
use Rattle.grib_packing.specs.Entries.{entries_of}
use Rattle.grib_packing.specs.Misfits.{ToSimple}
use Rattle.grib_packing.specs.Packed.{HasContents, IsBitmap, present_bits}
use Rattle.grib_packing.specs.Written.{IsPacked}
use Rattle.grib_simple_values.specs.Marked.{HasBitmap}
use Rattle.grib_simple_values.proofs.Fits.{no_misfit, numbers_with_mask, some_missing}
use Rattle.grib2_message.specs.Fields.{part_octets, field_mask, column_of}
use Rattle.grib_repack.proofs.AsTheyCome.{reach_small, all_masked}
use Rattle.grib_repack.proofs.values.pack_marked.Goals as goal

pub returns : goal.returns
returns c =
    let m = c.args.message.now in
    let i = c.args.field in
    let entries = entries_of (part_octets m i 5) (part_octets m i 7) in
    let mask = field_mask m i in
    let spelled = c.requires.spelled in
    let seen = c.args.seen.now in
    let is = c.requires.seen in
    let fits = c.requires.fits in
    let count = c.in_ok-numbers.ensures.count in
    let kept = c.in_ok-numbers.ensures.kept in
    let few : seen.present ≤ 33554432 = omega (arith, c.requires.present, c.requires.most) in
    let short : length entries < 2 ^ 32 = omega (arith, c.requires.most, count, spelled.values) in
    let long : c.args.simple.now.values ≡ length entries = omega (arith, count, spelled.values) in
    let own = is.present_is short in
    let small = reach_small entries seen is short fits in
    let present : present_count mask ≡ length entries = c.requires.masked ∙ long in
    let whole = whole_mask mask entries present (omega (arith, c.requires.whole, c.requires.masked)) in
    let numbers = numbers_with_mask mask entries present in
    let written = all_masked entries seen is short fits mask c.in_ok-none.none.numbers c.in_ok-numbers.field-0.numbers present c.in_ok-none.ensures.numbers kept.numbers in
    let all = kept.bitmap.keeps c.args.simple.now.values [] (omega (arith, long)) c.in_ok-none.ensures.bitmap in
    let has = c.finish.ensures entries (omega (arith, long, c.requires.most)) (subst (λ (n : ℕ). HasBitmap n entries c.in_ok-numbers.field-0.bitmap) long all) in
    let bitmap : IsBitmap c.finish.result entries =
    subst (λ (b : Bool). HasContents 6 c.finish.result (cond b (bits_of 8 0 ++ present_bits entries) (bits_of 8 255)))
    (sym (some_missing entries small (omega (arith, own, c.requires.present, long)))) has in
    subst (λ (kind : ℕ). IsPacked ToSimple (column_of m i) kind (Ok c.in_ok-packed.packed)) spelled.kind
    (c.in_ok-packed.ensures (column_of m i) (sym spelled.reference) (sym spelled.e) (sym spelled.d) (no_misfit mask entries small)
    (omega (arith, own, ap length numbers)) few (subst (λ (points : List Point). IsBitmap c.finish.result points) (sym whole) bitmap) written)
