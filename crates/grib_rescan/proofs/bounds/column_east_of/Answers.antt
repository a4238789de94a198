use Rattle.std.proofs.Common.{◌≡◌, ℕ, ℤ, sym, ap, ◌∙◌, subst, arith, w32, to_z, of_z, to_z-of_z}
use Rattle.grib_bits.specs.Octets.{octets}
use Rattle.grib_rescan.specs.Sections.{longitude_at}
use Rattle.grib_rescan.specs.Bounds.{east_of}
use Rattle.grib_rescan.specs.Places.{IsNearest}
use Rattle.grib_rescan.proofs.Closest.{IsSoFar, one_place, so_far, nearest_is}
use Rattle.grib_rescan.proofs.bounds.column_east_of.Goals as goal

pub loop-column-init : goal.loop-column-init
loop-column-init c =
    let s = c.args.section.now in
    let west = to_z w32 (of_z w32 c.args.west) in
    record { nearest = one_place (λ (i : ℕ). east_of west (longitude_at s i)); distance_is = c.from.ensures ∙ c.east_of.ensures.distance ∙ ap (east_of west) c.longitude.ensures }

pub loop-column-preserved : goal.loop-column-preserved
loop-column-preserved c =
    let s = c.args.section.now in
    let west = to_z w32 (of_z w32 c.args.west) in
    so_far (λ (i : ℕ). east_of west (longitude_at s i)) c.loop-column.column _ c.loop-column.closest c.or-closest.result (c.from-in-loop-column.ensures ∙ c.east_of-distance.ensures.distance ∙ ap (east_of west) c.longitude-in-loop-column.ensures) c.loop-column.invariant c.or-closest.ensures

pub returns-clause-column : goal.returns-clause-column
returns-clause-column c =
    let s = c.args.section.now in
    let distance = λ (i : ℕ). east_of c.args.west (longitude_at s i) in
    let last : c.loop-column.column ≡ octets s 31 34 = omega arith in
    let was = subst (λ (z : ℤ). IsSoFar (λ (i : ℕ). east_of z (longitude_at s i)) c.loop-column.column c.loop-column.closest) (to_z-of_z c.ranges.west) c.loop-column.invariant in
    sym (nearest_is distance (octets s 31 34) c.loop-column.closest.place (subst (λ (n : ℕ). IsNearest distance n c.loop-column.closest.place) last was.nearest))
