-- What keeps the points of a column.
use Rattle.std.proofs.Common.{◌≡◌, ◌+◌, ◌≤◌, Bool, true, List, [], ◌++◌, length, drop, replicate, vec_capacity, sym, arith, append_assoc, subst}
use Rattle.std.proofs.lemmas.List.{append-nil, length-append}
use Rattle.grib_bitmap.specs.Mask.{present_count}
use Rattle.grib_packing.specs.declared.column.Point.{Point}
use Rattle.grib_packing.specs.Column.{points_with_mask}
use Rattle.grib_packing.specs.declared.keeping.Points.{Points}

-- These values came, of a field with this mask: the points up to here stand, `left` present points follow,
-- and there is memory for all points.
pub record ArePoints (mask : List Bool) (seen : List Point) (points : Points) : Type 0 where
  pub mask_stays : points.mask.value ≡ mask
  pub memory : length mask ≤ vec_capacity points.points
  pub within : length points.points.items + points.left ≤ length mask
  pub agree : (more : List Point) → points_with_mask mask (seen ++ more) ≡ points.points.items ++ points_with_mask (drop (length points.points.items) mask) more
  pub counted : present_count mask ≡ length seen + present_count (drop (length points.points.items) mask)
  pub ahead : drop (length points.points.items) mask ≡ replicate points.left true ++ drop (length points.points.items + points.left) mask

pub record PointsKept (before : Points) (added : List Point) (after : Points) : Type 0 where
  pub keeps : (mask : List Bool) (seen : List Point) → length seen + length added ≤ present_count mask → ArePoints mask seen before → ArePoints mask (seen ++ added) after

-- no points, and points after points
pub points-none : (keeper : Points) → PointsKept keeper [] keeper
points-none keeper = record {
  keeps = λ mask seen room are. subst (λ (ps : List Point). ArePoints mask ps keeper) (sym (append-nil seen)) are;
}

pub points-more : (before between last : Points) (points more_points : List Point) → PointsKept before points between → PointsKept between more_points last
    → PointsKept before (points ++ more_points) last
points-more before between last points more_points first second = record {
  keeps = λ mask seen room are.
      let one = first.keeps mask seen (omega (arith, length-append points more_points)) are in
      let two = second.keeps mask (seen ++ points) (omega (arith, length-append points more_points, length-append seen points)) one in
      subst (λ (ps : List Point). ArePoints mask ps last) (append_assoc seen points more_points) two;
}
