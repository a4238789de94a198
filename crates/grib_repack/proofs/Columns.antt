-- The columns of an accepted message whose values can be read may be packed.
use Rattle.std.proofs.Common.{◌≡◌, ℕ, ◌^◌, ◌<◌, ◌≤◌, List, length, All, refl, sym, ap, subst, arith, ◌∙◌}
use Rattle.grib_bits.specs.Octets.{octets}
use Rattle.grib_base.proofs.Places.{any_of_none}
use Rattle.grib_base.specs.declared.profile.Profile.TheVariants.{Open}
use Rattle.grib2_grids.specs.Grid.{grid_points}
use Rattle.grib_packing.specs.declared.column.Column.{Column}
use Rattle.grib_packing.specs.Entries.{entries_of, is_out_of_range}
use Rattle.grib_packing.specs.Column.{points_with_mask}
use Rattle.grib_packing.specs.Written.{MayBePacked}
use Rattle.grib_packed.specs.Written.{HasWords}
use Rattle.grib2_message.specs.Fields.{part_octets, field_mask, column_of}
use Rattle.grib2_message.specs.Message.{FieldReads}
use Rattle.grib2_message.proofs.Masks.{points_bounds, points_of_mask}
use Rattle.grib_repack.specs.Repacked.{kind_of}
use Rattle.grib_packing.proofs.Packings.{packing_passes}
use Rattle.grib_repack.proofs.Ranges.{entries_within, none_with_mask}
use Rattle.grib_repack.proofs.Octets.{part_of_octets, octets_few}

-- a column of such a field with 1 to 33,554,432 points
pub packable : (message : List ℕ) (i : ℕ) (column : Column) → column ≡ column_of message i → FieldReads message i → 1 ≤ length column.points → length column.points ≤ 33554432
    → MayBePacked column
packable message i column is passes some few =
    let s5 = part_octets message i 5 in
    let s7 = part_octets message i 7 in
    let mask = field_mask message i in
    let packing = packing_passes s5 (grid_points (part_octets message i 3)) passes.packing in
    let same : length column.points ≡ length (points_with_mask mask (entries_of s5 s7)) = ap (λ (x : Column). length x.points) is in
    subst MayBePacked (sym is) (record {
      some = omega (arith, same, some);
      few = omega (arith, same, few);
      within = any_of_none is_out_of_range (points_with_mask mask (entries_of s5 s7)) (none_with_mask mask (entries_of s5 s7) (entries_within s5 s7 _ passes.packing passes.values));
      finite = packing.finite;
    })

module _ (message : List ℕ) (i : ℕ) (passes : FieldReads message i) (long : length (field_mask message i) ≡ grid_points (part_octets message i 3)) where
  pub column_long : length (column_of message i).points ≡ grid_points (part_octets message i 3)
  column_long = points_of_mask (field_mask message i) (entries_of (part_octets message i 5) (part_octets message i 7)) ∙ long

  pub may_be_packed : MayBePacked (column_of message i)
  may_be_packed =
      let bounds = points_bounds Open (part_octets message i 3) passes.grid in
      let same : length (points_with_mask (field_mask message i) (entries_of (part_octets message i 5) (part_octets message i 7))) ≡ grid_points (part_octets message i 3) =
      points_of_mask (field_mask message i) (entries_of (part_octets message i 5) (part_octets message i 7)) ∙ long in
      packable message i (column_of message i) refl passes (omega (arith, same, bounds.0)) (omega (arith, same, bounds.1))

-- the numbers of a Section 5 have its octets
pub has_words : (message : List ℕ) (i : ℕ) → All (λ octet. octet < 256) message → HasWords (column_of message i)
has_words message i each =
    let s5 = part_octets message i 5 in
    let small = part_of_octets message i 5 each in
    record {
      reference = octets_few s5 12 15 32 small (omega arith);
      binary_scale = octets_few s5 16 17 16 small (omega arith);
      decimal_scale = octets_few s5 18 19 16 small (omega arith);
    }

pub kind_small : (message : List ℕ) (i : ℕ) → All (λ octet. octet < 256) message → kind_of message i < 256
kind_small message i each =
    let few : octets (part_octets message i 5) 21 21 < 2 ^ 8 = octets_few (part_octets message i 5) 21 21 8 (part_of_octets message i 5 each) (omega arith) in
    omega arith
