use Rattle.std.proofs.Common.{ℕ, Bool, arith, subst₂}
use Rattle.std.proofs.lemmas.List.Sums.{count_by-le-length}
use Rattle.grib_base.specs.declared.profile.Profile.TheVariants.{Open}
use Rattle.grib_packing.specs.declared.column.Column.{Column}
use Rattle.grib_packing.specs.Entries.{entries_of}
use Rattle.grib_packing.specs.Misfits.{ToSimple}
use Rattle.grib_packing.specs.Written.{IsPacked}
use Rattle.grib_simple.proofs.Fitting.{few_numbers}
use Rattle.grib_simple_values.proofs.Fits.{all_seen}
use Rattle.grib2_message.specs.Fields.{part_octets}
use Rattle.grib2_message.proofs.Masks.{points_bounds}
use Rattle.grib_repack.proofs.Columns.{packable}
use Rattle.grib_repack.proofs.values.pack_values.Goals as goal

pub pack_present-requires-clause-seen : goal.pack_present-requires-clause-seen
pack_present-requires-clause-seen c =
    let entries = entries_of (part_octets c.args.message.now c.args.field 5) (part_octets c.args.message.now c.args.field 7) in
    all_seen entries c.none.result c.in_ok-seen.seen c.none.ensures c.in_ok-seen.ensures.kept

pub pack_marked-requires-clause-seen : goal.pack_marked-requires-clause-seen
pack_marked-requires-clause-seen c =
    let entries = entries_of (part_octets c.args.message.now c.args.field 5) (part_octets c.args.message.now c.args.field 7) in
    all_seen entries c.none.result c.in_ok-seen.seen c.none.ensures c.in_ok-seen.ensures.kept

pub pack_marked-requires-clause-present : goal.pack_marked-requires-clause-present
pack_marked-requires-clause-present c =
    let entries = entries_of (part_octets c.args.message.now c.args.field 5) (part_octets c.args.message.now c.args.field 7) in
    let seen = all_seen entries c.none.result c.in_ok-seen.seen c.none.ensures c.in_ok-seen.ensures.kept in
    let count = c.in_ok-seen.ensures.count in
    let own = seen.present_is (omega (arith, count, c.requires.spelled.values)) in
    omega (arith, own, few_numbers entries, count, c.requires.spelled.values, c.if-seen-simple.false)

pub pack_marked-requires-clause-most : goal.pack_marked-requires-clause-most
pack_marked-requires-clause-most c =
    let bounds = points_bounds Open (part_octets c.args.message.now c.args.field 3) c.in_ok-mask.ensures.passes.grid in
    omega (arith, c.in_ok-mask.ensures.long, c.in_ok-mask.ensures.values, c.requires.spelled.values, count_by-le-length (λ (b : Bool). b) c.in_ok-mask.mask, bounds.1)

pub pack-requires : goal.pack-requires
pack-requires c =
    let e = c.in_ok-column.ensures in
    packable c.args.message.now c.args.field c.in_ok-column.column e.column e.passes e.some e.few

pub returns : goal.returns
returns c =
    subst₂ (λ (column : Column) (kind : ℕ). IsPacked ToSimple column kind c.pack.result) c.in_ok-column.ensures.column c.requires.spelled.kind c.pack.ensures
