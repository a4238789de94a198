use Rattle.std.proofs.Common.{◌≡◌, ℤ, ◌&&◌, int_le, sym, ap, ◌∙◌, subst, arith, w32, w64, to_z, of_z, to_z-of_z, SFits}
use Rattle.grib_bits.specs.Octets.{octets}
use Rattle.grib_rescan.specs.declared.places.Held.{Held}
use Rattle.grib_rescan.specs.Bounds.{held, run_of, in_rows}
use Rattle.grib_rescan.specs.Places.{held_of}
use Rattle.grib_rescan.proofs.Members.{held_in, held_out, held-few}
use Rattle.grib_rescan.proofs.bounds.rows_between.Goals as goal
use Rattle.grib_rescan.proofs.bounds.rows_between.Goals.{then-is_between, else-is_between}

pub with-held-requires : goal.with-held-requires
with-held-requires c =
    let few = held-few (in_rows (to_z w32 (of_z w32 c.args.south)) (to_z w32 (of_z w32 c.args.north)) c.args.section.now) c.loop-row.row in
    let count = ap (λ (h : Held). h.count) c.loop-row.invariant in
    omega (arith, few, count)

pub loop-row-preserved : goal.loop-row-preserved
loop-row-preserved c =
    let s = c.args.section.now in
    let south = to_z w32 (of_z w32 c.args.south) in
    let north = to_z w32 (of_z w32 c.args.north) in
    let row = c.loop-row.row in
    let fits : SFits w64 c.latitude.result = record { sfits = c.latitude.type_inv } in
    let told : in_rows south north s row ≡ c.is_between.result =
    sym (c.is_between.ensures ∙ ap (λ (z : ℤ). int_le south z && int_le z north) (to_z-of_z fits ∙ c.latitude.ensures)) in
    elim c.if-is_between.branch [
      | then-is_between b ↦ b.held-is ∙ b.with-held.ensures (held (in_rows south north s) row) c.loop-row.invariant ∙ ap held_of (sym (held_in (in_rows south north s) row (told ∙ b.if-is_between.true)))
      | else-is_between b ↦ b.held-is ∙ c.loop-row.invariant ∙ ap held_of (sym (held_out (in_rows south north s) row (told ∙ b.if-is_between.false)))
    ]

pub returns : goal.returns
returns c =
    let s = c.args.section.now in
    let holds = in_rows c.args.south c.args.north s in
    let was : c.loop-row.held ≡ held_of (held holds c.loop-row.row) =
    subst (λ (z : ℤ). c.loop-row.held ≡ held_of (held (in_rows z c.args.north s) c.loop-row.row)) (to_z-of_z c.ranges.south)
    (subst (λ (z : ℤ). c.loop-row.held ≡ held_of (held (in_rows (to_z w32 (of_z w32 c.args.south)) z s) c.loop-row.row)) (to_z-of_z c.ranges.north) c.loop-row.invariant) in
    let last : c.loop-row.row ≡ octets s 35 38 = omega arith in
    c.run.ensures (held holds c.loop-row.row) was ∙ ap (run_of holds) last
