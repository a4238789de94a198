use Rattle.std.proofs.Common.{◌≡◌, ℕ, ◌^◌, ◌<◌, ◌≤◌, Bool, length, sym, ap, ◌∙◌, Ok, arith, subst}
use Rattle.std.proofs.lemmas.List.Sums.{count_by-le-length}
use Rattle.grib_base.specs.declared.profile.Profile.TheVariants.{Open}
use Rattle.grib_bitmap.specs.Mask.{present_count}
use Rattle.grib_packing.specs.Column.{points_with_mask}
use Rattle.grib_packing.specs.Entries.{entries_of}
use Rattle.grib_packing.specs.Misfits.{ToSimple}
use Rattle.grib_packing.specs.Written.{IsPacked}
use Rattle.grib_simple_values.proofs.Fits.{no_misfit, numbers_with_mask, bits_with_mask}
use Rattle.grib2_message.specs.Fields.{part_octets, field_mask, column_of}
use Rattle.grib2_message.proofs.Masks.{points_bounds}
use Rattle.grib_repack.proofs.AsTheyCome.{reach_small, all_masked}
use Rattle.grib_repack.proofs.values.pack_present.Goals as goal

pub start-requires-clause-few : goal.start-requires-clause-few
start-requires-clause-few c =
    let bounds = points_bounds Open (part_octets c.args.message.now c.args.field 3) c.in_ok-mask.ensures.passes.grid in
    omega (arith, c.in_ok-mask.ensures.long, c.in_ok-mask.ensures.values, c.requires.spelled.values, c.requires.present, count_by-le-length (λ (b : Bool). b) c.in_ok-mask.mask, bounds.1)

pub mask_section-requires-clause-few : goal.mask_section-requires-clause-few
mask_section-requires-clause-few c =
    let bounds = points_bounds Open (part_octets c.args.message.now c.args.field 3) c.in_ok-mask.ensures.passes.grid in
    omega (arith, c.in_ok-mask.ensures.long, bounds.1)

pub returns : goal.returns
returns c =
    let m = c.args.message.now in
    let i = c.args.field in
    let entries = entries_of (part_octets m i 5) (part_octets m i 7) in
    let mask = field_mask m i in
    let spelled = c.requires.spelled in
    let seen = c.args.seen.now in
    let is = c.requires.seen in
    let fits = c.requires.fits in
    let count = c.in_ok-written.ensures.count in
    let bounds = points_bounds Open (part_octets m i 3) c.in_ok-mask.ensures.passes.grid in
    let few : seen.present ≤ 33554432 =
    omega (arith, c.in_ok-mask.ensures.long, c.in_ok-mask.ensures.values, spelled.values, c.requires.present, count_by-le-length (λ (b : Bool). b) c.in_ok-mask.mask, bounds.1) in
    let short : length entries < 2 ^ 32 = omega (arith, few, count, spelled.values, c.requires.present) in
    let own = is.present_is short in
    let present : present_count mask ≡ length entries = sym (ap present_count c.in_ok-mask.ensures.mask) ∙ c.in_ok-mask.ensures.values ∙ sym count in
    let numbers = numbers_with_mask mask entries present in
    let bits = bits_with_mask mask entries present (omega (arith, own, c.requires.present, count, spelled.values)) in
    let written = all_masked entries seen is short fits mask c.in_ok-none.none c.in_ok-written.written present c.in_ok-none.ensures c.in_ok-written.ensures.kept in
    subst (λ (kind : ℕ). IsPacked ToSimple (column_of m i) kind (Ok c.in_ok-packed.packed)) spelled.kind
    (c.in_ok-packed.ensures (column_of m i) (sym spelled.reference) (sym spelled.e) (sym spelled.d) (no_misfit mask entries (reach_small entries seen is short fits))
    (omega (arith, own, ap length numbers)) few (c.in_ok-section6.ensures (points_with_mask mask entries) (bits ∙ sym c.in_ok-mask.ensures.mask)) written)
