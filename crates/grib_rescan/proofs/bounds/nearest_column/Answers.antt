use Rattle.std.proofs.Common.{◌≡◌, ℕ, ℤ, sym, subst, arith, w32, to_z, of_z, to_z-of_z}
use Rattle.grib_bits.specs.Octets.{octets}
use Rattle.grib_rescan.specs.Bounds.{column_distance}
use Rattle.grib_rescan.specs.Places.{IsNearest}
use Rattle.grib_rescan.proofs.Closest.{IsSoFar, one_place, so_far, nearest_is}
use Rattle.grib_rescan.proofs.bounds.nearest_column.Goals as goal

pub loop-column-init : goal.loop-column-init
loop-column-init c =
    let s = c.args.section.now in
    record { nearest = one_place (column_distance (to_z w32 (of_z w32 c.args.longitude)) s); distance_is = c.column_distance.ensures }

pub loop-column-preserved : goal.loop-column-preserved
loop-column-preserved c =
    let s = c.args.section.now in
    so_far (column_distance (to_z w32 (of_z w32 c.args.longitude)) s) c.loop-column.column _ c.loop-column.closest c.or-closest.result c.column_distance-in-loop-column.ensures c.loop-column.invariant c.or-closest.ensures

pub returns : goal.returns
returns c =
    let s = c.args.section.now in
    let distance = column_distance c.args.longitude s in
    let last : c.loop-column.column ≡ octets s 31 34 = omega arith in
    let was = subst (λ (z : ℤ). IsSoFar (column_distance z s) c.loop-column.column c.loop-column.closest) (to_z-of_z c.ranges.longitude) c.loop-column.invariant in
    sym (nearest_is distance (octets s 31 34) c.loop-column.closest.place (subst (λ (n : ℕ). IsNearest distance n c.loop-column.closest.place) last was.nearest))
