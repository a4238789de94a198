use Rattle.std.proofs.Common.{◌≡◌, ◌≤◌, Bool, List, length, sym, ap, ◌∙◌, arith}
use Rattle.std.proofs.lemmas.List.Sums.{count_by-le-length}
use Rattle.grib_base.specs.declared.limits.TheConstants.{MOST_POINTS}
use Rattle.grib_bitmap.specs.Mask.{present_count}
use Rattle.grib_packing.specs.Column.{points_with_mask}
use Rattle.grib_packing.specs.Entries.{entries_of}
use Rattle.grib_decimal.specs.Summary.{summary_of}
use Rattle.grib_base.specs.declared.profile.Profile.TheVariants.{Open}
use Rattle.grib2_message.specs.Fields.{part_octets}
use Rattle.grib2_message.proofs.Masks.{points_bounds}
use Rattle.grib_report.proofs.message.field_sums.Goals as goal

pub placed-requires-clause-few : goal.placed-requires-clause-few
placed-requires-clause-few c =
    let bounds = points_bounds Open (part_octets c.args.message.now c.args.field 3) c.mask.ensures.passes.grid in
    omega (arith, c.in_ok-mask.ensures.long, bounds.1)

pub placed-requires-clause-sums : goal.placed-requires-clause-sums
placed-requires-clause-sums c =
    let m = c.args.message.now in
    let i = c.args.field in
    let entries = entries_of (part_octets m i 5) (part_octets m i 7) in
    let bounds = points_bounds Open (part_octets m i 3) c.mask.ensures.passes.grid in
    let few : length c.in_ok-mask.mask ≤ MOST_POINTS = omega (arith, c.in_ok-mask.ensures.long, bounds.1) in
    let short : length entries ≤ MOST_POINTS =
    omega (arith, c.in_ok-summed.ensures.count, c.in_ok-mask.ensures.values, count_by-le-length (λ (b : Bool). b) c.in_ok-mask.mask, few) in
    let long : length entries ≡ present_count c.in_ok-mask.mask = c.in_ok-summed.ensures.count ∙ sym c.in_ok-mask.ensures.values in
    let sums = c.finish.ensures c.start.result entries short c.start.ensures c.in_ok-summed.ensures.kept in
    (entries, long, sums)

pub returns : goal.returns
returns c =
    let m = c.args.message.now in
    let i = c.args.field in
    let entries = entries_of (part_octets m i 5) (part_octets m i 7) in
    let bounds = points_bounds Open (part_octets m i 3) c.mask.ensures.passes.grid in
    let few : length c.in_ok-mask.mask ≤ MOST_POINTS = omega (arith, c.in_ok-mask.ensures.long, bounds.1) in
    let short : length entries ≤ MOST_POINTS =
    omega (arith, c.in_ok-summed.ensures.count, c.in_ok-mask.ensures.values, count_by-le-length (λ (b : Bool). b) c.in_ok-mask.mask, few) in
    let long : length entries ≡ present_count c.in_ok-mask.mask = c.in_ok-summed.ensures.count ∙ sym c.in_ok-mask.ensures.values in
    let sums = c.finish.ensures c.start.result entries short c.start.ensures c.in_ok-summed.ensures.kept in
    c.placed.ensures entries long sums ∙ ap (λ (mask : List Bool). summary_of (points_with_mask mask entries)) c.in_ok-mask.ensures.mask
