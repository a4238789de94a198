use Rattle.std.proofs.Common.{◌≡◌, ℕ, ℤ, sym, subst, arith, w32, to_z, of_z, to_z-of_z}
use Rattle.grib_bits.specs.Octets.{octets}
use Rattle.grib_rescan.specs.Bounds.{row_distance}
use Rattle.grib_rescan.specs.Places.{IsNearest}
use Rattle.grib_rescan.proofs.Closest.{IsSoFar, one_place, so_far, nearest_is}
use Rattle.grib_rescan.proofs.bounds.nearest_row.Goals as goal

pub loop-row-init : goal.loop-row-init
loop-row-init c =
    let s = c.args.section.now in
    record { nearest = one_place (row_distance (to_z w32 (of_z w32 c.args.latitude)) s); distance_is = c.row_distance.ensures }

pub loop-row-preserved : goal.loop-row-preserved
loop-row-preserved c =
    let s = c.args.section.now in
    so_far (row_distance (to_z w32 (of_z w32 c.args.latitude)) s) c.loop-row.row _ c.loop-row.closest c.or-closest.result c.row_distance-in-loop-row.ensures c.loop-row.invariant c.or-closest.ensures

pub returns : goal.returns
returns c =
    let s = c.args.section.now in
    let distance = row_distance c.args.latitude s in
    let last : c.loop-row.row ≡ octets s 35 38 = omega arith in
    let was = subst (λ (z : ℤ). IsSoFar (row_distance z s) c.loop-row.row c.loop-row.closest) (to_z-of_z c.ranges.latitude) c.loop-row.invariant in
    sym (nearest_is distance (octets s 35 38) c.loop-row.closest.place (subst (λ (n : ℕ). IsNearest distance n c.loop-row.closest.place) last was.nearest))
