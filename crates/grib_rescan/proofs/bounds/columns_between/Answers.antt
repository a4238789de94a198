use Rattle.std.proofs.Common.{◌≡◌, ℕ, ℤ, ◌+◌, ◌%◌, nat_le, sym, ap, ◌∙◌, subst, arith, w32, to_z, of_z, to_z-of_z}
use Rattle.std.proofs.lemmas.Bool.{le-leb, lt-leb}
use Rattle.grib_bits.specs.Octets.{octets}
use Rattle.grib_rescan.specs.declared.places.Held.{Held}
use Rattle.grib_rescan.specs.Sections.{longitude_at}
use Rattle.grib_rescan.specs.Bounds.{held, run_of, east_of}
use Rattle.grib_rescan.specs.Places.{held_of}
use Rattle.grib_rescan.proofs.Members.{held_in, held_out, held-few}
use Rattle.grib_rescan.proofs.bounds.columns_between.Goals as goal
use Rattle.grib_rescan.proofs.bounds.columns_between.Goals.{then-east_of-span, else-east_of-span}

pub with-held-requires : goal.with-held-requires
with-held-requires c =
    let west = to_z w32 (of_z w32 c.args.west) in
    let few =
    held-few (λ k. nat_le (east_of west (longitude_at c.args.section.now ((c.args.first + k) % octets c.args.section.now 31 34))) c.args.span) c.loop-place.place in
    let count = ap (λ (h : Held). h.count) c.loop-place.invariant in
    omega (arith, few, count, c.u32_at-columns.ensures)

pub loop-place-preserved : goal.loop-place-preserved
loop-place-preserved c =
    let s = c.args.section.now in
    let west = to_z w32 (of_z w32 c.args.west) in
    let holds = λ (k : ℕ). nat_le (east_of west (longitude_at s ((c.args.first + k) % octets s 31 34))) c.args.span in
    let place = c.loop-place.place in
    let east =
    c.east_of.ensures.distance ∙ ap (east_of west) (c.longitude.ensures ∙ ap (λ (n : ℕ). longitude_at s ((c.args.first + place) % n)) c.u32_at-columns.ensures) in
    let told = ap (λ (d : ℕ). nat_le d c.args.span) (sym east) in
    elim c.if-east_of-span.branch [
      | then-east_of-span b ↦ b.held-is ∙ b.with-held.ensures (held holds place) c.loop-place.invariant ∙ ap held_of (sym (held_in holds place (told ∙ le-leb c.east_of.result c.args.span b.if-east_of-span.true)))
      | else-east_of-span b ↦ b.held-is ∙ c.loop-place.invariant ∙ ap held_of (sym (held_out holds place (told ∙ lt-leb c.east_of.result c.args.span b.if-east_of-span.false)))
    ]

pub returns : goal.returns
returns c =
    let s = c.args.section.now in
    let holds = λ (z : ℤ) (k : ℕ). nat_le (east_of z (longitude_at s ((c.args.first + k) % octets s 31 34))) c.args.span in
    let was = subst (λ (z : ℤ). c.loop-place.held ≡ held_of (held (holds z) c.loop-place.place)) (to_z-of_z c.ranges.west) c.loop-place.invariant in
    let last : c.loop-place.place ≡ octets s 31 34 = omega (arith, c.u32_at-columns.ensures) in
    c.run.ensures (held (holds c.args.west) c.loop-place.place) was ∙ ap (λ (n : ℕ). run_of (holds c.args.west) n) last
