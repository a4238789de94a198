use Rattle.std.proofs.Common.{◌≡◌, ℕ, ◌≤◌, List, length, sym, ◌∙◌, arith, subst}
use Rattle.grib_base.specs.declared.profile.Profile.TheVariants.{Open}
use Rattle.grib2_message.specs.Fields.{field_count, part_octets}
use Rattle.grib2_message.specs.Message.{IsAnyMessage}
use Rattle.grib2_message.specs.Assembled.{assembled_with}
use Rattle.grib2_message.proofs.Ahead.{assembled_as_long}
use Rattle.grib2_message.proofs.readable.ReadableMessage.assemble_with.Goals as goal

pub put_together-requires-clause-total : goal.put_together-requires-clause-total
put_together-requires-clause-total g c =
    let m = c.octets-octets.result.now in
    let is = c.octets-octets.ensures.octets in
    let grid = c.args.grid.now in
    let takes =
    subst (λ (x : List ℕ). (i : ℕ) → 1 ≤ i → i ≤ field_count x → g.G.NewGrid.takes grid (part_octets x i 3)) (sym is) c.requires.grids in
    let message = subst IsAnyMessage (sym is) c.octets-octets.ensures.message in
    c.assembled_length-total.ensures
    ∙ sym (assembled_as_long Open (g.G.NewGrid.becomes grid) m c.args.packed.now message
    (λ i low high. g.met.G.NewGrid.as_long grid (part_octets m i 3) (takes i low high)))

pub returns-then-total-gt-MOST_OCTETS : goal.returns-then-total-gt-MOST_OCTETS
returns-then-total-gt-MOST_OCTETS g c =
    let m = c.octets-octets.result.now in
    let is = c.octets-octets.ensures.octets in
    let grid = c.args.grid.now in
    let takes =
    subst (λ (x : List ℕ). (i : ℕ) → 1 ≤ i → i ≤ field_count x → g.G.NewGrid.takes grid (part_octets x i 3)) (sym is) c.requires.grids in
    let message = subst IsAnyMessage (sym is) c.octets-octets.ensures.message in
    let total = c.assembled_length-total.ensures
    ∙ sym (assembled_as_long Open (g.G.NewGrid.becomes grid) m c.args.packed.now message
    (λ i low high. g.met.G.NewGrid.as_long grid (part_octets m i 3) (takes i low high))) in (
      subst (λ (x : List ℕ). c.assembled_length-total.result ≡ length (assembled_with (g.G.NewGrid.becomes grid) x c.args.packed.now)) is total,
      omega (arith, c.if-total-gt-MOST_OCTETS.true),
    )

pub returns : goal.returns
returns g c =
    let m = c.octets-octets.result.now in
    let is = c.octets-octets.ensures.octets in
    let grid = c.args.grid.now in
    let takes =
    subst (λ (x : List ℕ). (i : ℕ) → 1 ≤ i → i ≤ field_count x → g.G.NewGrid.takes grid (part_octets x i 3)) (sym is) c.requires.grids in
    let message = subst IsAnyMessage (sym is) c.octets-octets.ensures.message in
    let total = c.assembled_length-total.ensures
    ∙ sym (assembled_as_long Open (g.G.NewGrid.becomes grid) m c.args.packed.now message
    (λ i low high. g.met.G.NewGrid.as_long grid (part_octets m i 3) (takes i low high))) in
    subst (λ (x : List ℕ). (c.in_ok-put_together.field-0.items ≡ assembled_with (g.G.NewGrid.becomes grid) x c.args.packed.now)
    × (length (assembled_with (g.G.NewGrid.becomes grid) x c.args.packed.now) ≤ 268435456)) is
    (c.in_ok-put_together.ensures, omega (arith, total, c.if-total-gt-MOST_OCTETS.false))
