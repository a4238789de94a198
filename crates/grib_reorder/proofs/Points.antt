-- The points of a new column are points of the old one.
use Rattle.std.proofs.Common.{◌≡◌, ℕ, zero, suc, ◌%◌, Bool, false, ◌||◌, ◌==◌, None, List, [], ◌∷◌, ◌++◌, map, refl, ap, ap₂, ◌∙◌, arith}
use Rattle.std.specs.List.{list_any, range_with_len, flat_map}
use Rattle.std.proofs.lemmas.Bool.{or_parts}
use Rattle.grib_bits.specs.Binary32.{ieee_exponent}
use Rattle.grib_bits.specs.Octets.{octets}
use Rattle.grib_base.specs.Rules.{first_fault}
use Rattle.grib_base.specs.declared.profile.Profile.TheVariants.{Stated}
use Rattle.grib2_grids.specs.Grid.{grid_rules}
use Rattle.grib_packing.specs.declared.column.Column.{Column}
use Rattle.grib_packing.specs.declared.column.Point.{Point}
use Rattle.grib_packing.specs.declared.column.Point.TheVariants.{Missing}
use Rattle.grib_packing.specs.Entries.{is_out_of_range}
use Rattle.grib_packing.specs.Written.{MayBePacked}
use Rattle.grib_rescan.specs.declared.points.Area.{Area}
use Rattle.grib_rescan.specs.Scanning.{scanning_of, point_at}
use Rattle.grib_rescan.specs.Points.{point, row_of, box_row_of, cropped_points, width, height}
use Rattle.grib_rescan.specs.Bounds.{area_within}
use Rattle.grib2_message.proofs.Masks.{points_bounds}
use Rattle.grib_reorder.specs.declared.edit.GridEdit.{GridEdit}
use Rattle.grib_reorder.specs.declared.edit.GridEdit.TheVariants.{Rescan, Crop, Within}
use Rattle.grib_reorder.specs.Rescanned.{Stands, cause_of, section_of, new_column}
use Rattle.grib_reorder.proofs.Grids.{new_rules, new_points}

module _ (test : Point → Bool) (missing : test Missing ≡ false) where
  none_at : (points : List Point) (n : ℕ) → list_any test points ≡ false → test (point points n) ≡ false
  none_at [] n none = missing
  none_at (p ∷ points) zero none = (or_parts (test p) (list_any test points) none).0
  none_at (p ∷ points) (suc n) none = none_at points n (or_parts (test p) (list_any test points) none).1

  none_joined : (xs ys : List Point) → list_any test xs ≡ false → list_any test ys ≡ false → list_any test (xs ++ ys) ≡ false
  none_joined [] ys a b = b
  none_joined (x ∷ xs) ys a b =
      let both = or_parts (test x) (list_any test xs) a in
      ap₂ (λ (p q : Bool). p || q) both.0 (none_joined xs ys both.1 b)

  none_in_row : (points : List Point) (f : ℕ → ℕ) (places : List ℕ) → list_any test points ≡ false → list_any test (map (λ i. point points (f i)) places) ≡ false
  none_in_row points f [] none = refl
  none_in_row points f (i ∷ places) none = ap₂ (λ (p q : Bool). p || q) (none_at points (f i) none) (none_in_row points f places none)

  none_in_rows : (row : ℕ → List Point) (rows : List ℕ) → ((j : ℕ) → list_any test (row j) ≡ false) → list_any test (flat_map row rows) ≡ false
  none_in_rows row [] each = refl
  none_in_rows row (j ∷ rows) each = none_joined (row j) (flat_map row rows) (each j) (none_in_rows row rows each)

  none_cropped : (area : Area) (ni nj : ℕ) (points : List Point) → list_any test points ≡ false → list_any test (cropped_points area ni nj points) ≡ false
  none_cropped area ni nj points none =
      none_in_rows (box_row_of ni nj points area.i0 (width area)) (range_with_len area.j0 (height area))
      (λ j. none_in_row points (λ i. point_at (scanning_of 0) ni nj (i % ni) j) (range_with_len area.i0 (width area)) none)

  -- where no old point passes a test, no new one does
  pub none_new : (edit : GridEdit) (s : List ℕ) (column : Column) → list_any test column.points ≡ false → list_any test (new_column edit s column).points ≡ false
  none_new Rescan s column none =
      let order = scanning_of (octets s 72 72) in
      let ni = octets s 31 34 in
      let nj = octets s 35 38 in
      none_in_rows (row_of order ni nj column.points 0 ni) (range_with_len 0 nj)
      (λ j. none_in_row column.points (λ i. point_at order ni nj i j) (range_with_len 0 ni) none)
  none_new (Crop area) s column none = none_cropped area (octets s 31 34) (octets s 35 38) column.points none
  none_new (Within bounds) s column none = none_cropped (area_within bounds s) (octets s 31 34) (octets s 35 38) column.points none

-- R stays
pub same_reference : (edit : GridEdit) (s : List ℕ) (column : Column) → (new_column edit s column).reference ≡ column.reference
same_reference Rescan s column = refl
same_reference (Crop area) s column = refl
same_reference (Within bounds) s column = refl

pub same_e : (edit : GridEdit) (s : List ℕ) (column : Column) → (new_column edit s column).e ≡ column.e
same_e Rescan s column = refl
same_e (Crop area) s column = refl
same_e (Within bounds) s column = refl

pub same_d : (edit : GridEdit) (s : List ℕ) (column : Column) → (new_column edit s column).d ≡ column.d
same_d Rescan s column = refl
same_d (Crop area) s column = refl
same_d (Within bounds) s column = refl

-- so the new column may be packed where the old one may
pub new_packable : (edit : GridEdit) (s : List ℕ) (column : Column) → Stands edit → first_fault (grid_rules s) ≡ None → cause_of edit s ≡ None
    → MayBePacked column → MayBePacked (new_column edit s column)
new_packable edit s column stands none uncaused may =
    let bounds = points_bounds Stated (section_of edit s) (new_rules edit s stands none uncaused) in
    let size = new_points edit s column stands none uncaused in
    record {
      some = omega (arith, size, bounds.0);
      few = omega (arith, size, bounds.1);
      within = none_new is_out_of_range refl edit s column may.within;
      finite = ap (λ (r : ℕ). ieee_exponent r == 255) (same_reference edit s column) ∙ may.finite;
    }
