use Rattle.std.proofs.Common.{◌≡◌, ℕ, Bool, List, length, ap, sym, ◌∙◌, arith, subst}
use Rattle.std.proofs.lemmas.List.{length-map}
use Rattle.grib_base.specs.declared.profile.Profile.TheVariants.{Open}
use Rattle.grib2_grids.specs.Grid.{grid_points}
use Rattle.grib_packing.specs.Column.{points_with_mask}
use Rattle.grib_packing.specs.Entries.{entries_of}
use Rattle.grib_packing.specs.declared.column.Point.{Point}
use Rattle.grib_codes.specs.declared.point_words.PointWords.{PointWords}
use Rattle.grib_codes.specs.KeptWords.{AreWords, word_for}
use Rattle.grib2_message.specs.Fields.{part_octets, field_mask, column_of}
use Rattle.grib2_message.proofs.Masks.{points_bounds, points_of_mask}
use Rattle.grib_repack.proofs.groups.point_words.Goals as goal

pub with_mask-requires : goal.with_mask-requires
with_mask-requires c =
    c.in_ok-mask.ensures.values ∙ sym c.in_ok-kept.ensures.count ∙ sym (ap length c.in_ok-kept.ensures.words.words ∙ length-map _ word_for)

module _ (message : List ℕ) (i : ℕ) (mask : List Bool) (kept all : PointWords) (is : mask ≡ field_mask message i)
    (are : AreWords (entries_of (part_octets message i 5) (part_octets message i 7)) kept)
    (masked : (entries : List Point) → AreWords entries kept → AreWords (points_with_mask mask entries) all) where
  all_words : AreWords (column_of message i).points all
  all_words =
      let entries = entries_of (part_octets message i 5) (part_octets message i 7) in
      subst (λ (mask : List Bool). AreWords (points_with_mask mask entries) all) is (masked entries are)

  -- there is a word for each grid point
  as_long : length mask ≡ grid_points (part_octets message i 3) → length all.words.items ≡ grid_points (part_octets message i 3)
  as_long long =
      ap length all_words.words ∙ length-map (column_of message i).points word_for
      ∙ points_of_mask (field_mask message i) (entries_of (part_octets message i 5) (part_octets message i 7)) ∙ ap length (sym is) ∙ long

pub returns-clause-words : goal.returns-clause-words
returns-clause-words c =
    all_words c.args.message.now c.args.field c.in_ok-mask.mask c.in_ok-kept.kept c.in_ok-all.all c.in_ok-mask.ensures.mask c.in_ok-kept.ensures.words c.in_ok-all.ensures

pub returns-clause-some : goal.returns-clause-some
returns-clause-some c =
    let bounds = points_bounds Open (part_octets c.args.message.now c.args.field 3) c.in_ok-mask.ensures.passes.grid in
    let long = as_long c.args.message.now c.args.field c.in_ok-mask.mask c.in_ok-kept.kept c.in_ok-all.all c.in_ok-mask.ensures.mask c.in_ok-kept.ensures.words c.in_ok-all.ensures c.in_ok-mask.ensures.long in
    omega (arith, long, bounds.0)

pub returns-clause-few : goal.returns-clause-few
returns-clause-few c =
    let bounds = points_bounds Open (part_octets c.args.message.now c.args.field 3) c.in_ok-mask.ensures.passes.grid in
    let long = as_long c.args.message.now c.args.field c.in_ok-mask.mask c.in_ok-kept.kept c.in_ok-all.all c.in_ok-mask.ensures.mask c.in_ok-kept.ensures.words c.in_ok-all.ensures c.in_ok-mask.ensures.long in
    omega (arith, long, bounds.1)
